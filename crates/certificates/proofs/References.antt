-- The references with the expanded next-hop (RFC 7672, 3.2.2; document 02, No. 3): with none they are what they were, where it adds nothing, and what it adds. Assumes nothing.
use Prim.Native.Nat.{ℕ}
use mathlib.Core.Path.{◌≡◌, refl, ap, ◌∙◌}
use mathlib.Core.Bool.{Bool, true, false, cond, ◌&&◌, ◌||◌, and-or_distrib_left}
use mathlib.Core.List.{List, [], ◌∷◌}
use mathlib.Core.Option.{Option, none, some}
use lib.Dec.{eqb}
use Rattle.lists.specs.Bytes.{any}
use Rattle.lists.specs.Equal.{same_text}
use Rattle.names.specs.Name.{some_matches}
use Rattle.names.proofs.Exactly.{some_like}
use Rattle.tlsa.specs.Record.{usage_of, counts}
use Rattle.certificates.specs.Facts.{Certificate, Presented}
use Rattle.certificates.specs.Checks.{matches_certificate, matches_on_path, leaf_of, after_leaf, record_matches, further_reference, references, leaf_names, names_reference, one_matches, dane_passes}
use Rattle.certificates.specs.declared.Origin.TheVariants.{SecureMx, InsecureMx, NoMx}

-- Whether it differs from the next-hop decides no match: equal names are matched alike.
pub matches_further : (ids : List (List ℕ)) (next_hop expanded : List ℕ) → any (some_matches ids) (next_hop ∷ further_reference next_hop (some expanded)) ≡ any (some_matches ids) (next_hop ∷ expanded ∷ [])
unfolding further_reference any
matches_further ids next_hop expanded = go (same_text expanded next_hop) refl
  where
    twice : (n : Bool) → (n || false) ≡ (n || (n || false))
    twice true = refl
    twice false = refl

    go : (t : Bool) → same_text expanded next_hop ≡ t → (some_matches ids next_hop || any (some_matches ids) (cond t [] (expanded ∷ []))) ≡ (some_matches ids next_hop || (some_matches ids expanded || false))
    go true e = rw (some_like ids expanded next_hop e) (twice (some_matches ids next_hop))
    go false e = refl

module _ (domain next_hop : List ℕ) where
  -- With none and secure MX: the TLSA base domain and the next-hop, as document 01 has it.
  pub secure_without : references SecureMx domain next_hop none ≡ domain ∷ next_hop ∷ []
  unfolding references further_reference
  secure_without = refl

  -- With insecure MX and with no MX it adds nothing, whatever it is.
  pub insecure_with_any : (e : Option (List ℕ)) → references InsecureMx domain next_hop e ≡ domain ∷ []
  unfolding references
  insecure_with_any e = refl

  pub no_mx_with_any : (e : Option (List ℕ)) → references NoMx domain next_hop e ≡ domain ∷ next_hop ∷ []
  unfolding references
  no_mx_with_any e = refl

  module _ (expanded : List ℕ) where
    -- Where it is the next-hop in whatever case it adds nothing.
    pub same_adds_nothing : same_text expanded next_hop ≡ true → references SecureMx domain next_hop (some expanded) ≡ domain ∷ next_hop ∷ []
    unfolding references further_reference
    same_adds_nothing h = rw h

    -- With secure MX, where it differs, it is the third.
    pub third_reference : same_text expanded next_hop ≡ false → references SecureMx domain next_hop (some expanded) ≡ domain ∷ next_hop ∷ expanded ∷ []
    unfolding references further_reference
    third_reference h = rw h

    -- With secure MX the leaf has to name one of the three.
    pub names_one_of_three : (p : Presented) → names_reference (references SecureMx domain next_hop (some expanded)) p ≡ any (some_matches (leaf_names p.dns_ids p.common_name)) (domain ∷ next_hop ∷ expanded ∷ [])
    unfolding names_reference references any
    names_one_of_three p = let ids = leaf_names p.dns_ids p.common_name in ap (λ (r : Bool). some_matches ids domain || r) (matches_further ids next_hop expanded)

-- a test of either is either's test
any_either : {A : Type 0} (f g h : A → Bool) → ((x : A) → h x ≡ (f x || g x)) → (xs : List A) → any h xs ≡ (any f xs || any g xs)
unfolding any
any_either f g h e [] = refl
any_either f g h e (x ∷ xs) = rw (e x, any_either f g h e xs) (go (f x) (g x) (any f xs) (any g xs))
  where
    go : (a b c d : Bool) → ((a || b) || (c || d)) ≡ ((a || c) || (b || d))
    go true b c d = refl
    go false true true d = refl
    go false true false d = refl
    go false false c d = refl

match_either : (u w : Bool) (certs : List Certificate) (r : List ℕ) → record_matches (u || w) certs r ≡ (record_matches u certs r || record_matches w certs r)
unfolding record_matches
match_either u w certs r = go (eqb (usage_of r) 3 && any (matches_certificate r) (leaf_of certs)) (eqb (usage_of r) 2) u w (any (matches_on_path r) (after_leaf certs))
  where
    go : (a b u w c : Bool) → (a || b && (u || w) && c) ≡ ((a || b && u && c) || (a || b && w && c))
    go true b u w c = refl
    go false false u w c = refl
    go false true true true true = refl
    go false true true true false = refl
    go false true true false true = refl
    go false true true false false = refl
    go false true false w c = refl

named_either : (u w : Bool) (set : List (List ℕ)) (certs : List Certificate) → one_matches (u || w) set certs ≡ (one_matches u set certs || one_matches w set certs)
named_either u w set certs = any_either (λ (r : List ℕ). counts set r && record_matches u certs r) (λ (r : List ℕ). counts set r && record_matches w certs r) (λ (r : List ℕ). counts set r && record_matches (u || w) certs r) each set
  where
    each : (r : List ℕ) → (counts set r && record_matches (u || w) certs r) ≡ (counts set r && record_matches u certs r || counts set r && record_matches w certs r)
    each r = rw (match_either u w certs r) (and-or_distrib_left (counts set r) (record_matches u certs r) (record_matches w certs r))

-- with secure MX the leaf names one of the three where it names one of the first two, or one of the first and third
names_either : (domain next_hop expanded : List ℕ) (p : Presented) → names_reference (references SecureMx domain next_hop (some expanded)) p ≡ (names_reference (references SecureMx domain next_hop none) p || names_reference (references SecureMx domain expanded none) p)
unfolding names_reference any
names_either domain next_hop expanded p = names_one_of_three domain next_hop expanded p ∙ rw (secure_without domain next_hop, secure_without domain expanded) (go (named domain) (named next_hop) (named expanded))
  where
    named : List ℕ → Bool
    named n = some_matches (leaf_names p.dns_ids p.common_name) n

    go : (d n x : Bool) → (d || (n || (x || false))) ≡ ((d || (n || false)) || (d || (x || false)))
    go true n x = refl
    go false true x = refl
    go false false true = refl
    go false false false = refl

-- With secure MX, DANE passes exactly where it passes with no expanded next-hop, or does so with the expanded next-hop in the next-hop's place.
pub dane_by_either : (domain next_hop expanded : List ℕ) (set : List (List ℕ)) (p : Presented) → dane_passes (references SecureMx domain next_hop (some expanded)) set p ≡ (dane_passes (references SecureMx domain next_hop none) set p || dane_passes (references SecureMx domain expanded none) set p)
unfolding dane_passes
dane_by_either domain next_hop expanded set p =
    rw (names_either domain next_hop expanded p) (named_either (names_reference (references SecureMx domain next_hop none) p) (names_reference (references SecureMx domain expanded none) p) set p.certificates)
