-- The returns of the functions on the leaf's names. Assumes nothing.
use Prim.Native.Nat.{ℕ}
use mathlib.Core.Path.{◌≡◌, refl, sym, ◌∙◌}
use mathlib.Core.Bool.{Bool, true, false, or-false}
use mathlib.Core.List.{List, [], ◌∷◌}
use mathlib.Core.Option.{Option}
use Rattle.std.specs.Borrow.{Bor}
use Rattle.std.specs.Prelude as S
use native.Mathlib.Omega.{arith}
use lib.ListN.{length}
use borrow.Author.Rules.{rules}
use borrow.Author.Tests.{not-true, not-false}
use Rattle.lists.specs.Bytes.{any}
use Rattle.numbers.specs.Pieces.{cut}
use Rattle.names.specs.Name.{some_matches}
use Rattle.certificates.specs.Facts.{text_in}
use Rattle.certificates.specs.Checks.{further_reference, references, leaf_names}
use Rattle.certificates.specs.declared.Origin.{Origin}
use Rattle.certificates.specs.declared.Origin.TheVariants.{SecureMx, InsecureMx, NoMx}
use Rattle.certificates.proofs.References.{matches_further}

-- the names that count, where some DNS-ID is listed and where none is
some_listed : (s ns : List ℕ) (common : Option (List ℕ)) → (length ns ≡ 0 → ⊥) → leaf_names (cut s ns) common ≡ cut s ns
unfolding leaf_names cut
some_listed s [] common h = absurd (h refl)
some_listed s (n ∷ ns) common h = refl

none_listed : (s ns : List ℕ) (common : Option (List ℕ)) → length ns ≡ 0 → leaf_names (cut s ns) common ≡ leaf_names [] common
unfolding cut
none_listed s [] common h = refl
none_listed s (n ∷ ns) common h = absurd (omega arith)

-- `has_name`: n is what `count` gave, r what the last call gave; p is the test of a name
module _ (p : List ℕ → Bool) (s ns : List ℕ) (common : S.Option (Bor (List ℕ))) (n : ℕ) (counted : n ≡ length ns) where
  pub leaf_ids : (n ≡ 0 → ⊥) → (r : Bool) → r ≡ any p (cut s ns) → r ≡ any p (leaf_names (cut s ns) (text_in common))
  leaf_ids z r e = rw (some_listed s ns (text_in common) (λ q. z (counted ∙ q))) e

  module _ (z : n ≡ 0) where
    pub leaf_nameless : common ≡ S.None → false ≡ any p (leaf_names (cut s ns) (text_in common))
    unfolding leaf_names any
    leaf_nameless h = rw (none_listed s ns (text_in common) (sym counted ∙ z), h)

    pub leaf_common : (name : Bor (List ℕ)) → common ≡ S.Some name → (r : Bool) → r ≡ p name.now → r ≡ any p (leaf_names (cut s ns) (text_in common))
    unfolding leaf_names any
    leaf_common name h r e = rw (none_listed s ns (text_in common) (sym counted ∙ z), h) (e ∙ sym (or-false (p name.now)))

pub ruleset leaf_names_laws = (leaf_ids, leaf_nameless, leaf_common, not-true, not-false, rules)

-- `names_next_hop`: f and r are what the calls gave, ids are the names that count
module _ (ids : List (List ℕ)) (next : List ℕ) (expanded : S.Option (Bor (List ℕ))) (f : Bool) (fe : f ≡ some_matches ids next) where
  pub next_hop_named : f ≡ true → true ≡ any (some_matches ids) (next ∷ further_reference next (text_in expanded))
  unfolding any
  next_hop_named t = rw (sym fe ∙ t)

  module _ (ff : f ≡ false) where
    pub next_hop_alone : expanded ≡ S.None → false ≡ any (some_matches ids) (next ∷ further_reference next (text_in expanded))
    unfolding further_reference any
    next_hop_alone h = rw (sym fe ∙ ff, h)

    pub next_hop_further : (name : Bor (List ℕ)) → expanded ≡ S.Some name → (r : Bool) → r ≡ some_matches ids name.now → r ≡ any (some_matches ids) (next ∷ further_reference next (text_in expanded))
    unfolding any
    next_hop_further name h r e = rw (h, matches_further ids next name.now, sym fe ∙ ff, or-false (some_matches ids name.now)) e

pub ruleset next_hop_laws = (next_hop_named, next_hop_alone, next_hop_further, not-true, not-false, rules)

-- `names_reference`: f and r are what the calls gave, p is the test of a reference
first_hit : (p : List ℕ → Bool) (origin : Origin) (domain next : List ℕ) (expanded : Option (List ℕ)) → p domain ≡ true → any p (references origin domain next expanded) ≡ true
unfolding references any
first_hit p SecureMx domain next expanded h = rw h
first_hit p InsecureMx domain next expanded h = rw h
first_hit p NoMx domain next expanded h = rw h

module _ (p : List ℕ → Bool) (origin : Origin) (domain next : List ℕ) (expanded : Option (List ℕ)) (f : Bool) (fe : f ≡ p domain) where
  pub reference_domain : f ≡ true → true ≡ any p (references origin domain next expanded)
  reference_domain t = sym (first_hit p origin domain next expanded (sym fe ∙ t))

  module _ (ff : f ≡ false) where
    pub reference_secure : origin ≡ Origin.SecureMx → (r : Bool) → r ≡ any p (next ∷ further_reference next expanded) → r ≡ any p (references origin domain next expanded)
    unfolding references any
    reference_secure h r e = rw (h, sym fe ∙ ff) e

    pub reference_insecure : origin ≡ Origin.InsecureMx → false ≡ any p (references origin domain next expanded)
    unfolding references any
    reference_insecure h = rw (h, sym fe ∙ ff)

    pub reference_no_mx : origin ≡ Origin.NoMx → (r : Bool) → r ≡ p next → r ≡ any p (references origin domain next expanded)
    unfolding references any
    reference_no_mx h r e = rw (h, sym fe ∙ ff, or-false (p next)) e

pub ruleset reference_laws = (reference_domain, reference_secure, reference_insecure, reference_no_mx, not-true, not-false, rules)
