-- The ways out of the functions that make parts of what was noted. Assumes nothing.
use Rattle.std.specs.Prelude.{Option, None, Some, Result, Ok, Err}
use Prim.Native.Nat.{ℕ}
use mathlib.Core.Path.{◌≡◌}
use mathlib.Core.List.{List}
use borrow.Author.Rules.{rules}
use borrow.Author.Tests.{eq-eqb, ne_eqb}
use lib.ListN.{drop}
use Rattle.der.specs.declared.Head.{Head}
use Rattle.der.specs.Header.{header}
use Rattle.x509.specs.declared.Part.{Part}
use Rattle.x509.specs.declared.Noted.{Noted}
use Rattle.x509.specs.declared.Found.{Found}
use Rattle.der.specs.declared.Fault.{Fault}
use Rattle.x509.specs.declared.Place.{Place}
use Rattle.x509.specs.Walk.{walk_run, walk_element, none_noted, walk_certificate}
use Rattle.x509.specs.Found.{whole_of, contents_of, whole_at, contents_at, name_at, alternatives_at, found_at, fields_by, fields_of}

module _ (s : List ℕ) (at : ℕ) (d : Option Head) (is_d : d ≡ header at (drop at s)) where
  pub whole_opens : (h : Head) → d ≡ Some h → record { start = at; end = h.end } ≡ whole_at s at
  unfolding whole_at whole_of
  whole_opens h e = cc

  pub whole_none : d ≡ None → record { start = 0; end = 0 } ≡ whole_at s at
  unfolding whole_at whole_of
  whole_none e = cc

  pub contents_opens : (h : Head) → d ≡ Some h → record { start = h.start; end = h.end } ≡ contents_at s at
  unfolding contents_at contents_of
  contents_opens h e = cc

  pub contents_none : d ≡ None → record { start = 0; end = 0 } ≡ contents_at s at
  unfolding contents_at contents_of
  contents_none e = cc

module _ (s : List ℕ) (at : ℕ) where
  pub name_none : at ≡ 0 → None ≡ name_at s at
  unfolding name_at
  name_none e = cc (eq-eqb at 0 e)

  pub name_given : (at ≡ 0 → ⊥) → (p : Part) → p ≡ contents_at s at → Some p ≡ name_at s at
  unfolding name_at
  name_given e p f = cc (ne_eqb at 0 e)

  pub alternatives_none : at ≡ 0 → record { start = 0; end = 0 } ≡ alternatives_at s at
  unfolding alternatives_at
  alternatives_none e = cc (eq-eqb at 0 e)

  pub alternatives_given : (at ≡ 0 → ⊥) → (p : Part) → p ≡ contents_at s at → p ≡ alternatives_at s at
  unfolding alternatives_at
  alternatives_given e p f = cc (ne_eqb at 0 e)

pub found_is : (s : List ℕ) (n : Noted) (key : Part) (name : Option Part) (alternatives : Part) → key ≡ whole_at s n.key → name ≡ name_at s n.name → alternatives ≡ alternatives_at s n.alternatives
    → record { key = key; name = name; alternatives = alternatives } ≡ found_at s n
unfolding found_at
found_is s n key name alternatives e f g = rw (e, f, g)

module _ (s : List ℕ) (w : Result Noted Fault) (is_w : w ≡ walk_run (walk_element 16) Place.Certificate none_noted s 0) where
  pub fields_fault : (o : Fault) → w ≡ Err o → Err o ≡ fields_of s
  unfolding fields_of fields_by walk_certificate
  fields_fault o e = cc

  pub fields_are : (n : Noted) (f : Found) → w ≡ Ok n → f ≡ found_at s n → Ok f ≡ fields_of s
  unfolding fields_of fields_by walk_certificate
  fields_are n f e g = cc

pub ruleset part_laws = (whole_opens, whole_none, contents_opens, contents_none, name_none, name_given, alternatives_none, alternatives_given, found_is, rules)

pub ruleset fields_laws = (fields_fault, fields_are, rules)
