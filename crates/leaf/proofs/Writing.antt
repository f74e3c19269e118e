-- The loops that write a piece for each DNS-ID. Assumes nothing.
use Prim.Native.Nat.{ℕ, ◌+◌, ◌-◌, ◌*◌, ◌≤◌}
use mathlib.Core.Path.{◌≡◌, refl, sym, ap, ◌∙◌}
use mathlib.Core.List.{List, [], ◌∷◌, ◌++◌, append_assoc}
use native.Mathlib.Omega.{arith}
use lib.ListN.{length, take, drop, length-drop, length-append}
use lib.Seq.{take-length, take_at, drop_at, drop-drop, length-take-le}
use Rattle.lists.proofs.Write.{piece_within, piece_take, piece_drop}
use Rattle.x509.specs.declared.Part.{Part}
use Rattle.leaf.specs.Names.{each_as}
use Rattle.numbers.specs.Numbers.{eight}
use borrow.Rule.Slice.PartMut.{put_mid}
use Rattle.std.specs.Int.{w64, to_be_bytes}
use Rattle.leaf.specs.Read.{sixteen, places_text}

pub each_none : (f : Part → List ℕ) (ps : List Part) → ps ≡ [] → each_as f ps ≡ []
unfolding each_as
each_none f ps e = rw e

pub each_next : (f : Part → List ℕ) (ps qs : List Part) (p : Part) → ps ≡ p ∷ qs → each_as f ps ≡ f p ++ each_as f qs
unfolding each_as
each_next f ps qs p e = rw e

-- pieces of one length have a multiple of it
pub each_length : (f : Part → List ℕ) (m : ℕ) → ((p : Part) → length (f p) ≡ m) → (ps : List Part) → length (each_as f ps) ≡ length ps * m
unfolding each_as
each_length f m h [] = omega arith
each_length f m h (p ∷ ps) = omega (arith, length-append (f p) (each_as f ps), h p, each_length f m h ps)

-- n bytes of the text of some parts stand in the output, and the text of ps is left of it
module _ (f : Part → List ℕ) (all ps : List Part) (n : ℕ) (left : drop n (each_as f all) ≡ each_as f ps) (w : n ≤ length (each_as f all)) where
  pub item_end : ps ≡ [] → (d x : List ℕ) → x ≡ take n (each_as f all) ++ drop n d → x ≡ each_as f all ++ drop (length (each_as f all)) d
  item_end e d x front =
      let z : n ≡ length (each_as f all) = omega (arith, length-drop n (each_as f all), ap length (left ∙ each_none f ps e)) in
      front ∙ rw (z, take-length (each_as f all))

  module _ (p : Part) (qs : List Part) (next : ps ≡ p ∷ qs) (m : ℕ) (size : length (f p) ≡ m) where
    item_piece : drop n (each_as f all) ≡ f p ++ each_as f qs
    item_piece = left ∙ each_next f ps qs p next

    pub item_within : n + m ≤ length (each_as f all)
    item_within = piece_within (each_as f all) (f p) (each_as f qs) n m size w item_piece

    pub item_left : drop (n + m) (each_as f all) ≡ each_as f qs
    item_left = piece_drop (each_as f all) (f p) (each_as f qs) n m size w item_piece

    -- y is written in place of k bytes of the output, from n on
    module _ (d x y : List ℕ) (k : ℕ) (is_k : k ≡ m) (is_y : y ≡ f p) (front : x ≡ take n (each_as f all) ++ drop n d) (room : length (each_as f all) ≤ length d) where
      item_rest : drop n x ≡ drop n d
      item_rest = ap (drop n) front ∙ drop_at (take n (each_as f all)) (drop n d) n (length-take-le n (each_as f all) w)

      item_front : take n x ≡ take n (each_as f all)
      item_front = ap (take n) front ∙ take_at (take n (each_as f all)) (drop n d) n (length-take-le n (each_as f all) w)

      pub item_put : put_mid n k x y ≡ take (n + m) (each_as f all) ++ drop (n + m) d
      item_put = rw (is_k, item_front, item_rest, is_y, drop-drop m n d, piece_take (each_as f all) (f p) (each_as f qs) n m size w item_piece) (sym (append_assoc (take n (each_as f all)) (f p) (drop (n + m) d)))

      pub item_same : length (put_mid n k x y) ≡ length d
      item_same = rw item_put (omega (arith, item_within, length-append (take (n + m) (each_as f all)) (drop (n + m) d), length-take-le (n + m) (each_as f all) item_within, length-drop (n + m) d))

-- a place has sixteen bytes
pub sixteen_size : (p : Part) → length (sixteen p) ≡ 16
unfolding sixteen eight
sixteen_size p = refl

-- the bytes of a place: its start over the front of sixteen zeros, and its length over the rest
pub place_is : (p : Part) (a b : List ℕ) → a ≡ to_be_bytes w64 p.start → b ≡ to_be_bytes w64 (p.end - p.start)
    → put_mid 8 8 (a ++ 0 ∷ 0 ∷ 0 ∷ 0 ∷ 0 ∷ 0 ∷ 0 ∷ 0 ∷ []) b ≡ sixteen p
unfolding sixteen eight
place_is p a b e f = rw (e, f)

pub places_length : (ps : List Part) → length (places_text ps) ≡ length ps * 16
places_length ps = each_length sixteen 16 sixteen_size ps
