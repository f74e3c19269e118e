-- The ways out of the functions over RFC 5280's table. Assumes nothing.
use Rattle.std.specs.Prelude.{Option, None, Some}
use Rattle.std.specs.Option.{option_or}
use Prim.Native.Nat.{ℕ, ◌-◌, ◌<◌}
use mathlib.Core.Path.{◌≡◌, refl}
use mathlib.Core.Bool.{Bool}
use mathlib.Core.List.{List}
use native.Mathlib.Omega.{arith}
use borrow.Author.Rules.{rules}
use borrow.Author.Tests.{eq-eqb, ne_eqb, not-true, not-false}
use lib.ListN.{length, take, drop}
use lib.Seq.{take_all}
use Rattle.lists.specs.Equal.{same_bytes}
use Rattle.x509.specs.declared.Place.{Place}
use Rattle.x509.specs.declared.Note.{Note}
use Rattle.x509.specs.declared.Field.{Field}
use Rattle.x509.specs.declared.Noted.{Noted}
use Rattle.x509.specs.Walk.{noted}
use Rattle.x509.specs.Fields.{is_of, anything, tagged, holds, or_else, noting}

-- another tag than the one that is wanted, and the wanted one
module _ (tag wanted : ℕ) (after : Place) where
  pub tagged_other : (tag ≡ wanted → ⊥) → None ≡ tagged wanted after tag
  unfolding tagged
  tagged_other e = cc (ne_eqb tag wanted e)

  pub tagged_is : (r : Option Field) → tag ≡ wanted → r ≡ anything after → r ≡ tagged wanted after tag
  unfolding tagged
  tagged_is r e f = cc (eq-eqb tag wanted e)

  module _ (inside : Place) where
    pub holds_other : (tag ≡ wanted → ⊥) → None ≡ holds wanted inside after tag
    unfolding holds
    holds_other e = cc (ne_eqb tag wanted e)

    pub holds_is : tag ≡ wanted → Some (record { note = Note.Nothing; inside = Some inside; after = after }) ≡ holds wanted inside after tag
    unfolding holds
    holds_is e = cc (eq-eqb tag wanted e)

pub else_is : (a b : Option Field) → option_or a b ≡ or_else a b
unfolding or_else
else_is (Some f) b = refl
else_is None b = refl

-- the first of several, however they are joined
pub else_three : (a b c : Option Field) → option_or (option_or a b) c ≡ or_else a (or_else b c)
unfolding or_else
else_three (Some f) b c = refl
else_three None b c = else_is b c

pub else_four : (a b c d : Option Field) → option_or (option_or (option_or a b) c) d ≡ or_else a (or_else b (or_else c d))
unfolding or_else
else_four (Some f) b c d = refl
else_four None b c d = else_three b c d

pub else_five : (a b c d e : Option Field) → option_or (option_or (option_or (option_or a b) c) d) e ≡ or_else a (or_else b (or_else c (or_else d e)))
unfolding or_else
else_five (Some f) b c d e = refl
else_five None b c d e = else_four b c d e

pub noting_is : (n : Note) (a : Option Field) (f : Field) → a ≡ Some f → Some (record { note = n; inside = f.inside; after = f.after }) ≡ noting n a
unfolding noting
noting_is n a f e = cc

pub noting_none : (n : Note) (a : Option Field) → a ≡ None → None ≡ noting n a
unfolding noting
noting_none n a e = cc

pub of_short : (id c : List ℕ) (r : Bool) → length c < 5 → r ≡ same_bytes c id → r ≡ is_of id c
unfolding is_of
of_short id c r h e = let z : take 5 c ≡ c = take_all 5 c (omega arith) in cc

pub of_front : (id c : List ℕ) (r : Bool) → r ≡ same_bytes (take (5 - 0) (drop 0 c)) id → r ≡ is_of id c
unfolding is_of
of_front id c r e = e

-- what is noted
module _ (n : Note) (at : ℕ) (f : Noted) where
  pub noted_key : n ≡ Note.KeyInfo → record { key = at; name = f.name; alternatives = f.alternatives } ≡ noted n at f
  unfolding noted
  noted_key e = rw e

  pub noted_name : n ≡ Note.NameValue → record { key = f.key; name = at; alternatives = f.alternatives } ≡ noted n at f
  unfolding noted
  noted_name e = rw e

  pub noted_alternatives : n ≡ Note.Alternatives → record { key = f.key; name = f.name; alternatives = at } ≡ noted n at f
  unfolding noted
  noted_alternatives e = rw e

  pub noted_nothing : n ≡ Note.Nothing → f ≡ noted n at f
  unfolding noted
  noted_nothing e = rw e

pub ruleset noted_laws = (noted_key, noted_name, noted_alternatives, noted_nothing, rules)

pub ruleset else_laws = (else_is, else_three, else_four, else_five, rules)

pub ruleset table_laws = (tagged_other, tagged_is, holds_other, holds_is, noting_is, noting_none, of_short, of_front, not-true, not-false, rules)
