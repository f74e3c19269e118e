-- `is_name`: a turn of its loop, and its returns. A label begins at `start`; e is the first place after it where a byte stands that is of no label. Assumes nothing.
use Prim.Native.Nat.{ℕ, zero, suc, ◌+◌, ◌-◌, ◌<◌, ◌≤◌}
use mathlib.Core.Path.{◌≡◌, refl, sym, ◌∙◌}
use mathlib.Core.Bool.{Bool, true, false, not, ◌&&◌, and-true, and-false}
use mathlib.Core.List.{List}
use mathlib.Core.Logic.{⊎_elim}
use native.Mathlib.Nat.{add-zero, eq-or-lt_of_le}
use native.Mathlib.Omega.{arith}
use lib.Dec.{eqb, ltb}
use lib.ListN.{length, get_or, take, drop, length-drop}
use lib.Seq.{get_or-drop, get_or-take}
use borrow.Author.Tests.{ltb-true, ltb-false, eqb-true, eqb-false}
use Rattle.lists.specs.Bytes.{within, all}
use Rattle.lists.specs.Span.{span_of}
use Rattle.lists.specs.Split.{index_of, split}
use Rattle.lists.proofs.Laws.{tests}
use Rattle.lists.proofs.Split.{index_of_le, index_there, index_most}
use Rattle.lists.proofs.Every.{every_next, every_end, every_fail}
use Rattle.lists.proofs.Span.{span_le, span_all, span_before, span_short}
use Rattle.names.specs.Name.{label_byte, is_label, is_name}
use Rattle.names.specs.Scan.{label_ends}

-- a dot is of no label
pub dot_outside : label_byte 46 ≡ false
unfolding label_byte
dot_outside = refl

module _ (l : List ℕ) where
  -- where every byte is of a label, only the ends are left to ask
  label_whole : all label_byte l ≡ true → is_label l ≡ label_ends l
  unfolding is_label label_ends
  label_whole h = simp (h, and-true)

  label_broken : all label_byte l ≡ false → is_label l ≡ false
  unfolding is_label
  label_broken h = rw h (and-false (within 1 63 (length l) && not (eqb (get_or l 0 0) 45) && not (eqb (get_or l (length l - 1) 0) 45)))

-- what begins with a hyphen, and any part of its front, has not the ends of a label
hyphen_ends : (l : List ℕ) → get_or l 0 0 ≡ 45 → label_ends l ≡ false
unfolding label_ends
hyphen_ends l h = simp (h, and-false)

hyphen_first : (k : ℕ) (l : List ℕ) → get_or l 0 0 ≡ 45 → label_ends (take k l) ≡ false
unfolding label_ends
hyphen_first zero l h = refl
hyphen_first (suc k) l h = hyphen_ends (take (suc k) l) (get_or-take (suc k) l 0 0 (omega arith) ∙ h)

-- a piece that is no label: no name
name_fail : (s : List ℕ) (start e : ℕ) → e ≡ start + index_of 46 (drop start s) → all is_label (split 46 s) ≡ all is_label (split 46 (drop start s)) → (r : Bool) → r ≡ is_label (take (e - start) (drop start s)) → start ≤ length s → r ≡ false → false ≡ is_name s
unfolding is_name
name_fail s start e found inv r gave w t = rw (every_fail 46 s start e found is_label r inv gave w t) (sym (and-false (within 1 253 (length s))))

module _ (s : List ℕ) (start e : ℕ) (stops : e ≡ start + span_of label_byte (drop start s)) (w : start ≤ length s) where
  pub end_after : start ≤ e
  end_after = omega arith

  pub end_within : e ≤ length s
  end_within = omega (arith, span_le label_byte (drop start s), length-drop start s)

  byte_at : get_or (drop start s) (span_of label_byte (drop start s)) 0 ≡ get_or s e 0
  byte_at = rw (get_or-drop, ← stops)

  -- where a dot or the end of s follows, the label goes up to e
  found_dot : e < length s → get_or s e 0 ≡ 46 → e ≡ start + index_of 46 (drop start s)
  found_dot h d =
      let k : index_of 46 (drop start s) ≤ span_of label_byte (drop start s) = index_most 46 (drop start s) (span_of label_byte (drop start s)) (omega (arith, length-drop start s)) (byte_at ∙ d) in
      omega (arith, span_before label_byte 46 (drop start s) dot_outside)

  found_end : length s ≤ e → e ≡ start + index_of 46 (drop start s)
  found_end h = omega (arith, span_before label_byte 46 (drop start s) dot_outside, index_of_le 46 (drop start s), length-drop start s)

  -- the bytes up to e are of a label
  piece_is : is_label (take (e - start) (drop start s)) ≡ label_ends (take (e - start) (drop start s))
  piece_is =
      let k : e - start ≡ span_of label_byte (drop start s) = omega arith in
      label_whole (take (e - start) (drop start s)) (rw k (span_all label_byte (drop start s)))

  -- another byte follows: no label
  pub name_byte : all is_label (split 46 s) ≡ all is_label (split 46 (drop start s)) → e < length s → (get_or s e 0 ≡ 46 → ⊥) → false ≡ is_name s
  name_byte inv h d =
      let f = start + index_of 46 (drop start s) in
      let a : span_of label_byte (drop start s) < length (drop start s) = omega (arith, length-drop start s) in
      let b : span_of label_byte (drop start s) < index_of 46 (drop start s) = beyond a in
      let x : is_label (take (f - start) (drop start s)) ≡ false = label_broken (take (f - start) (drop start s)) (span_short label_byte (drop start s) (f - start) (omega arith) a) in
      name_fail s start f refl inv false (sym x) w refl
    where
      at_dot : span_of label_byte (drop start s) < length (drop start s) → span_of label_byte (drop start s) ≡ index_of 46 (drop start s) → get_or s e 0 ≡ 46
      at_dot a q = sym byte_at ∙ rw q (index_there 46 (drop start s) (omega arith))

      beyond : span_of label_byte (drop start s) < length (drop start s) → span_of label_byte (drop start s) < index_of 46 (drop start s)
      beyond a = ⊎_elim (λ q. absurd (d (at_dot a q))) (λ h. h) (eq-or-lt_of_le (span_before label_byte 46 (drop start s) dot_outside))

  module _ (r : Bool) (gave : r ≡ label_ends (take (e - start) (drop start s))) (inv : all is_label (split 46 s) ≡ all is_label (split 46 (drop start s))) where
    pub name_next : r ≡ true → e < length s → get_or s e 0 ≡ 46 → all is_label (split 46 s) ≡ all is_label (split 46 (drop (e + 1) s))
    name_next t h d = every_next 46 s start e (found_dot h d) is_label r inv (gave ∙ sym piece_is) h t

    pub name_good : r ≡ true → length s ≤ e → 1 ≤ length s → length s ≤ 253 → true ≡ is_name s
    unfolding is_name
    name_good t h small large = rw (every_end 46 s start e (found_end h) is_label r inv (gave ∙ sym piece_is) w h t) (search tests)

    pub name_bad : r ≡ false → false ≡ is_name s
    name_bad t = go (ltb e (length s)) (eqb (get_or s e 0) 46) refl refl
      where
        no_label : e ≡ start + index_of 46 (drop start s) → false ≡ is_name s
        no_label found = name_fail s start e found inv r (gave ∙ sym piece_is) w t

        go : (x y : Bool) → ltb e (length s) ≡ x → eqb (get_or s e 0) 46 ≡ y → false ≡ is_name s
        go false y p q = no_label (found_end (ltb-false e (length s) p))
        go true true p q = no_label (found_dot (ltb-true e (length s) p) (eqb-true (get_or s e 0) 46 q))
        go true false p q = name_byte inv (ltb-true e (length s) p) (eqb-false (get_or s e 0) 46 q)

  -- a label that begins with a hyphen is none
  pub name_hyphen : all is_label (split 46 s) ≡ all is_label (split 46 (drop start s)) → get_or s start 0 ≡ 45 → false ≡ is_name s
  name_hyphen inv h = name_bad false (sym (hyphen_first (e - start) (drop start s) (get_or-drop start s 0 0 ∙ rw add-zero h))) inv refl

-- at the end of s: r is what `has_label_ends` gave of what stands from `start` on
pub name_last : (s : List ℕ) (start : ℕ) → length s ≡ start + span_of label_byte (drop start s) → start ≤ length s → all is_label (split 46 s) ≡ all is_label (split 46 (drop start s)) → 1 ≤ length s → length s ≤ 253 → (r : Bool) → r ≡ label_ends (take (length s - start) (drop start s)) → r ≡ is_name s
name_last s start stops w inv small large true gave = name_good s start (length s) stops w true gave inv refl (omega arith) small large
name_last s start stops w inv small large false gave = name_bad s start (length s) stops w false gave inv refl
