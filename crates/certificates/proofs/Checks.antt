-- The returns of `set_match`, `dane_passes` and `shows_host`. Assumes nothing.
use Prim.Native.Nat.{ℕ}
use mathlib.Core.Path.{◌≡◌, refl, sym, ◌∙◌}
use mathlib.Core.Bool.{Bool, true, false, not, ◌&&◌, ◌||◌}
use mathlib.Core.List.{List, [], ◌∷◌}
use native.Mathlib.Omega.{arith}
use lib.Dec.{eqb}
use lib.ListN.{length}
use borrow.Author.Rules.{rules}
use borrow.Author.Tests.{not-true, not-false, lt-ltb}
use Rattle.lists.specs.Bytes.{any}
use Rattle.lists.proofs.Any.{any_more}
use Rattle.lists.proofs.Bools.{never, apart}
use Rattle.numbers.specs.Numbers.{numbers}
use Rattle.numbers.specs.Pieces.{pieces_in}
use Rattle.tlsa.specs.Record.{usage_of, counts}
use Rattle.certificates.specs.Facts.{Certificate, certificates_in, text_in, presented_by}
use Rattle.names.specs.Name.{some_matches}
use Rattle.certificates.specs.Checks.{matches_certificate, matches_on_path, leaf_of, after_leaf, record_matches, one_matches, leaf_names, names_reference, dane_passes, shows_host}
use Rattle.certificates.specs.Steps.{sha512_of, passes, match_of}
use Rattle.certificates.specs.declared.CertificateFacts.{CertificateFacts}
use Rattle.certificates.specs.declared.Match.{Match}
use Rattle.certificates.specs.declared.Sha512Pairs.{Sha512Pairs}
use Rattle.certificates.proofs.Limits.{certificates_count}
use Rattle.certificates.proofs.Strongest.{one_passes}

-- what passes without names passes with them, and what passes by any names passes where the leaf names a reference
named_helps : (set : List (List ℕ)) (certs : List Certificate) (named : Bool) (r : List ℕ) → (counts set r && record_matches false certs r) ≡ true → (counts set r && record_matches named certs r) ≡ true
unfolding record_matches
named_helps set certs named r h = go (counts set r) (eqb (usage_of r) 3) (eqb (usage_of r) 2) (any (matches_certificate r) (leaf_of certs)) named h
  where
    go : (c three two leaf named : Bool) → (c && (three && leaf || two && false && any (matches_on_path r) (after_leaf certs))) ≡ true → (c && (three && leaf || two && named && any (matches_on_path r) (after_leaf certs))) ≡ true
    go true true two true n h = refl
    go true true true false n h = apart h
    go true true false false n h = apart h
    go true false true leaf n h = apart h
    go true false false leaf n h = apart h
    go false three two leaf n h = h

-- what each kind of match says
unnamed_is : (a b : Bool) → match_of a b ≡ Match.Unnamed → a ≡ true
unfolding match_of
unnamed_is true b h = refl
unnamed_is false true h = never cc
unnamed_is false false h = never cc

named_is : (a b : Bool) → match_of a b ≡ Match.Named → (a ≡ false) × (b ≡ true)
unfolding match_of
named_is true b h = never cc
named_is false true h = (refl, refl)
named_is false false h = never cc

nothing_is : (a b : Bool) → match_of a b ≡ Match.Nothing → (a ≡ false) × (b ≡ false)
unfolding match_of
nothing_is true b h = never cc
nothing_is false true h = never cc
nothing_is false false h = (refl, refl)

-- the turns of `set_match`: a and b are whether the record at hand matches without names and with them, p whether it does while `wanted`; x and y are the same
-- as a and b of the records behind it
turn_unnamed : (a p x z : Bool) → match_of a p ≡ Match.Unnamed → Match.Unnamed ≡ match_of (a || x) z
unfolding match_of
turn_unnamed a p x z h = rw (unnamed_is a p h)

turn_named : (wanted a b p x y : Bool) → (wanted ≡ true → p ≡ b) → match_of a p ≡ Match.Named → match_of (a || x) (not wanted || (b || y)) ≡ match_of x true
turn_named true a b p x y s h = let w = named_is a p h in rw (w.0, ← s refl, w.1)
turn_named false a b p x y s h = rw (named_is a p h).0

turn_nothing : (wanted a b p x y : Bool) → (wanted ≡ true → p ≡ b) → match_of a p ≡ Match.Nothing → match_of (a || x) (not wanted || (b || y)) ≡ match_of x (not wanted || y)
turn_nothing true a b p x y s h = let w = nothing_is a p h in rw (w.0, ← s refl, w.1)
turn_nothing false a b p x y s h = rw (nothing_is a p h).0

-- `set_match`: a turn at r, which leaves ys of xs, and the end. m is what `record_match` gave
abbrev pub left_match : Sha512Pairs → List Certificate → (wanted : Bool) → List (List ℕ) → Match
left_match found certs wanted xs = match_of (any (passes found false certs) xs) (not wanted || any (passes found true certs) xs)

-- what the pairs of the set itself come to
pub by_found : (found : Sha512Pairs) (certs : List Certificate) (set : List (List ℕ)) (m : Match) → found ≡ sha512_of set → left_match found certs true set ≡ m → m ≡ match_of (any (passes (sha512_of set) false certs) set) (any (passes (sha512_of set) true certs) set)
by_found found certs set m e h = sym h ∙ rw e

module _ (found : Sha512Pairs) (certs : List Certificate) (wanted : Bool) (xs : List (List ℕ)) where
  pub set_none : xs ≡ [] → wanted ≡ true → left_match found certs wanted xs ≡ Match.Nothing
  unfolding any match_of
  set_none e o = rw (e, o)

  pub set_left_named : xs ≡ [] → wanted ≡ false → left_match found certs wanted xs ≡ Match.Named
  unfolding any match_of
  set_left_named e o = rw (e, o)

  module _ (r : List ℕ) (ys : List (List ℕ)) (e : xs ≡ r ∷ ys) (m : Match) (gave : m ≡ match_of (passes found false certs r) (passes found wanted certs r)) where
    while_wanted : wanted ≡ true → passes found wanted certs r ≡ passes found true certs r
    while_wanted o = rw o

    pub set_unnamed : m ≡ Match.Unnamed → left_match found certs wanted xs ≡ Match.Unnamed
    unfolding any
    set_unnamed q = rw e (sym (turn_unnamed (passes found false certs r) (passes found wanted certs r) (any (passes found false certs) ys) (not wanted || (passes found true certs r || any (passes found true certs) ys)) (sym gave ∙ q)))

    pub set_named : m ≡ Match.Named → left_match found certs wanted xs ≡ left_match found certs false ys
    unfolding any
    set_named q = rw e (turn_named wanted (passes found false certs r) (passes found true certs r) (passes found wanted certs r) (any (passes found false certs) ys) (any (passes found true certs) ys) while_wanted (sym gave ∙ q))

    pub set_nothing : m ≡ Match.Nothing → left_match found certs wanted xs ≡ left_match found certs wanted ys
    unfolding any
    set_nothing q = rw e (turn_nothing wanted (passes found false certs r) (passes found true certs r) (passes found wanted certs r) (any (passes found false certs) ys) (any (passes found true certs) ys) while_wanted (sym gave ∙ q))

-- `dane_passes`: m and b are what its calls gave
module _ (set : List (List ℕ)) (certs : List Certificate) where
  by_names : (named : Bool) → one_matches false set certs ≡ false → one_matches true set certs ≡ true → one_matches named set certs ≡ named
  by_names true x y = y
  by_names false x y = x

  unmatched : (named : Bool) → one_matches false set certs ≡ false → one_matches true set certs ≡ false → one_matches named set certs ≡ false
  unmatched true x y = y
  unmatched false x y = x

module _ (refs set : List (List ℕ)) (f : CertificateFacts) (m : Match) (me : m ≡ match_of (any (passes (sha512_of set) false (certificates_in f.chain)) set) (any (passes (sha512_of set) true (certificates_in f.chain)) set)) where
  says : dane_passes refs set (presented_by f) ≡ one_matches (any (some_matches (leaf_names (pieces_in f.dns_ids) (text_in f.common_name))) refs) set (certificates_in f.chain)
  unfolding dane_passes names_reference presented_by
  says = refl

  by_one : m ≡ match_of (one_matches false set (certificates_in f.chain)) (one_matches true set (certificates_in f.chain))
  by_one = me ∙ rw (one_passes set false (certificates_in f.chain), one_passes set true (certificates_in f.chain))

  pub dane_unnamed : m ≡ Match.Unnamed → true ≡ dane_passes refs set (presented_by f)
  dane_unnamed q =
      let named = any (some_matches (leaf_names (pieces_in f.dns_ids) (text_in f.common_name))) refs in
      let certs = certificates_in f.chain in
      sym (says ∙ any_more (λ (r : List ℕ). counts set r && record_matches false certs r) (λ (r : List ℕ). counts set r && record_matches named certs r) (named_helps set certs named) set (unnamed_is (one_matches false set certs) (one_matches true set certs) (sym by_one ∙ q)))

  pub dane_unmatched : m ≡ Match.Nothing → false ≡ dane_passes refs set (presented_by f)
  dane_unmatched q =
      let certs = certificates_in f.chain in
      let w = nothing_is (one_matches false set certs) (one_matches true set certs) (sym by_one ∙ q) in
      sym (says ∙ unmatched set certs (any (some_matches (leaf_names (pieces_in f.dns_ids) (text_in f.common_name))) refs) w.0 w.1)

  pub dane_named : m ≡ Match.Named → (b : Bool) → b ≡ any (some_matches (leaf_names (pieces_in f.dns_ids) (text_in f.common_name))) refs → b ≡ dane_passes refs set (presented_by f)
  dane_named q b be =
      let certs = certificates_in f.chain in
      let w = named_is (one_matches false set certs) (one_matches true set certs) (sym by_one ∙ q) in
      be ∙ sym (says ∙ by_names set certs (any (some_matches (leaf_names (pieces_in f.dns_ids) (text_in f.common_name))) refs) w.0 w.1)

pub ruleset dane_laws = (dane_unnamed, dane_unmatched, dane_named, rules)

-- `shows_host`: n is what `count` gave, r what `some_match` gave
module _ (host : List ℕ) (f : CertificateFacts) where
  pub host_root : f.trusted_root ≡ false → false ≡ shows_host host (presented_by f)
  unfolding shows_host presented_by
  host_root e = rw e

  module _ (t : f.trusted_root ≡ true) (n : ℕ) (counted : n ≡ length (numbers f.chain.lengths.now)) where
    certificates : length (certificates_in f.chain) ≡ n
    certificates = certificates_count f.chain.certificates.now f.chain.lengths.now f.chain.key_places.now f.chain.digests.now f.chain.paths.now ∙ sym counted

    pub host_none : n ≡ 0 → false ≡ shows_host host (presented_by f)
    unfolding shows_host presented_by
    host_none z = let g : length (certificates_in f.chain) ≡ 0 = certificates ∙ z in cc

    pub host_id : (n ≡ 0 → ⊥) → (r : Bool) → r ≡ some_matches (pieces_in f.dns_ids) host → r ≡ shows_host host (presented_by f)
    unfolding shows_host presented_by
    host_id z r e = rw (t, lt-ltb 0 (length (certificates_in f.chain)) (omega (arith, certificates))) e

pub ruleset host_laws = (host_root, host_none, host_id, not-true, not-false, rules)
