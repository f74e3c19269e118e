-- Each refusal of a TXT record is answered exactly in its case, in document 01's order 43, 40, 41, 44, 42. Assumes nothing.
use Prim.Native.Nat.{ℕ}
use mathlib.Core.Path.{◌≡◌, refl}
use mathlib.Core.Bool.{Bool, true, false, not, cond, ◌&&◌}
use mathlib.Core.List.{List, [], ◌∷◌}
use mathlib.Core.Option.{Option, none, some}
use lib.Dec.{eqb, leb}
use lib.ListN.{length}
use Rattle.txt.specs.Rdata.{is_wire_form, texts}
use Rattle.txt.specs.Grammar.{id_field}
use Rattle.txt.specs.Txt.{refused, wrote, candidates, chosen, outcome, record_answer, grammar, txt_answer, read_txt}

-- of the candidates: none is left
abbrev pub is_none : List (List ℕ) → Bool
is_none [] = true
is_none (t ∷ ts) = false

-- two or more are
abbrev pub is_several : List (List ℕ) → Bool
is_several [] = false
is_several (t ∷ []) = false
is_several (t ∷ u ∷ ts) = true

-- the one that is left passes a test
abbrev pub one_is : (List ℕ → Bool) → List (List ℕ) → Bool
one_is p [] = false
one_is p (t ∷ []) = p t
one_is p (t ∷ u ∷ ts) = false

-- the output, of `room` bytes, has room for a text
abbrev pub fits : ℕ → List ℕ → Bool
fits room t = leb (length t) room

-- the grammar finds an id
abbrev pub has_id : Option (List ℕ) → Bool
has_id none = false
has_id (some f) = true

-- the number n is none of the grammar's
record_not : (n : ℕ) → eqb 6 n ≡ false → eqb 42 n ≡ false → (t : List ℕ) (o : Option (List ℕ)) → eqb (record_answer t o).number n ≡ false
unfolding record_answer
record_not n h k t none = k
record_not n h k t (some f) = h

record_42 : (t : List ℕ) (o : Option (List ℕ)) → eqb (record_answer t o).number 42 ≡ not (has_id o)
unfolding record_answer
record_42 t none = refl
record_42 t (some f) = refl

module _ (room : ℕ) where
  -- the answer for some candidates has the number n
  abbrev is_number : ℕ → List (List ℕ) → Bool
  is_number n cs = eqb (txt_answer (chosen cs room)).number n

  one_number : (n : ℕ) (t : List ℕ) (x : Bool) → eqb (grammar t).number n ≡ x → is_number n (t ∷ []) ≡ cond (fits room t) x (eqb 44 n)
  unfolding txt_answer chosen
  one_number n t x e = go (fits room t)
    where
      go : (b : Bool) → eqb (txt_answer (cond b (wrote t) (refused 44))).number n ≡ cond b x (eqb 44 n)
      go true = e
      go false = refl

  same : (b : Bool) → cond b false false ≡ false
  same true = refl
  same false = refl

  turned : (b : Bool) → cond b false true ≡ not b
  turned true = refl
  turned false = refl

  both : (b x : Bool) → cond b x false ≡ (b && x)
  both true x = refl
  both false x = refl

  chosen_43 : (cs : List (List ℕ)) → is_number 43 cs ≡ false
  unfolding txt_answer chosen
  chosen_43 [] = refl
  chosen_43 (t ∷ []) = rw (one_number 43 t false (record_not 43 refl refl t (id_field t))) (same (fits room t))
  chosen_43 (t ∷ u ∷ ts) = refl

  chosen_40 : (cs : List (List ℕ)) → is_number 40 cs ≡ is_none cs
  unfolding txt_answer chosen
  chosen_40 [] = refl
  chosen_40 (t ∷ []) = rw (one_number 40 t false (record_not 40 refl refl t (id_field t))) (same (fits room t))
  chosen_40 (t ∷ u ∷ ts) = refl

  chosen_41 : (cs : List (List ℕ)) → is_number 41 cs ≡ is_several cs
  unfolding txt_answer chosen
  chosen_41 [] = refl
  chosen_41 (t ∷ []) = rw (one_number 41 t false (record_not 41 refl refl t (id_field t))) (same (fits room t))
  chosen_41 (t ∷ u ∷ ts) = refl

  chosen_44 : (cs : List (List ℕ)) → is_number 44 cs ≡ one_is (λ (t : List ℕ). not (fits room t)) cs
  unfolding txt_answer chosen
  chosen_44 [] = refl
  chosen_44 (t ∷ []) = rw (one_number 44 t false (record_not 44 refl refl t (id_field t))) (turned (fits room t))
  chosen_44 (t ∷ u ∷ ts) = refl

  chosen_42 : (cs : List (List ℕ)) → is_number 42 cs ≡ one_is (λ (t : List ℕ). fits room t && not (has_id (id_field t))) cs
  unfolding txt_answer chosen
  chosen_42 [] = refl
  chosen_42 (t ∷ []) = rw (one_number 42 t (not (has_id (id_field t))) (record_42 t (id_field t))) (both (fits room t) (not (has_id (id_field t))))
  chosen_42 (t ∷ u ∷ ts) = refl

module _ (s l : List ℕ) (room : ℕ) where
  -- the texts that are kept
  abbrev pub kept : List (List ℕ)
  kept = candidates (texts s l)

  wire_then : (n : ℕ) (x : Bool) → eqb 43 n ≡ false → is_number room n kept ≡ x → eqb (read_txt s l room).number n ≡ (is_wire_form s l && x)
  unfolding read_txt outcome txt_answer
  wire_then n x h e = go (is_wire_form s l)
    where
      go : (w : Bool) → eqb (txt_answer (cond w (chosen kept room) (refused 43))).number n ≡ (w && x)
      go true = e
      go false = h

  -- 43: the wire form is broken
  pub exactly_43 : eqb (read_txt s l room).number 43 ≡ not (is_wire_form s l)
  unfolding read_txt outcome txt_answer
  exactly_43 = go (is_wire_form s l)
    where
      go : (w : Bool) → eqb (txt_answer (cond w (chosen kept room) (refused 43))).number 43 ≡ not w
      go true = chosen_43 room kept
      go false = refl

  -- then 40: none is left; 41: two or more are; 44: the output is shorter than the one; 42: it is not, and the grammar finds no id in the one
  pub exactly_40 : eqb (read_txt s l room).number 40 ≡ (is_wire_form s l && is_none kept)
  exactly_40 = wire_then 40 (is_none kept) refl (chosen_40 room kept)

  pub exactly_41 : eqb (read_txt s l room).number 41 ≡ (is_wire_form s l && is_several kept)
  exactly_41 = wire_then 41 (is_several kept) refl (chosen_41 room kept)

  pub exactly_44 : eqb (read_txt s l room).number 44 ≡ (is_wire_form s l && one_is (λ (t : List ℕ). not (fits room t)) kept)
  exactly_44 = wire_then 44 _ refl (chosen_44 room kept)

  pub exactly_42 : eqb (read_txt s l room).number 42 ≡ (is_wire_form s l && one_is (λ (t : List ℕ). fits room t && not (has_id (id_field t))) kept)
  exactly_42 = wire_then 42 _ refl (chosen_42 room kept)
