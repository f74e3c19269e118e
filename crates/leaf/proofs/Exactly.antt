-- The answer of the call that reads a certificate, field by field, and what `places` is after it. Assumes nothing.
use Rattle.std.specs.Prelude.{Option, None, Some, Result, Ok, Err}
use Prim.Native.Nat.{ℕ, zero, suc, ◌+◌, ◌-◌, ◌*◌, ◌/◌, ◌%◌, ◌^◌, ◌<◌, ◌≤◌}
use mathlib.Core.Path.{◌≡◌, refl, ap}
use mathlib.Core.Bool.{Bool, true, false, cond, ◌||◌}
use mathlib.Core.List.{List, [], ◌∷◌, ◌++◌, append-nil}
use native.Mathlib.Omega.{arith}
use borrow.Author.Tests.{lt-leb, le-leb, lt-ltb, le-ltb}
use lib.Dec.{eqb, leb, ltb}
use lib.ListN.{length, get_or, take, drop, drop_of_length-le}
use lib.Seq.{take_at, drop_at, drop-drop}
use Rattle.lists.specs.Write.{wrote_front}
use Rattle.lists.proofs.Bools.{never}
use Rattle.der.specs.Header.{value_of}
use Rattle.numbers.specs.Numbers.{eight}
use Rattle.der.specs.declared.Fault.{Fault}
use Rattle.x509.specs.declared.Part.{Part}
use Rattle.x509.specs.declared.Found.{Found}
use Rattle.x509.specs.Found.{fields_of}
use Rattle.x509.proofs.Faults.{fault_inside}
use Rattle.leaf.specs.declared.ReadError.{ReadError}
use Rattle.leaf.specs.Names.{dns_ids_of, each_as}
use Rattle.leaf.specs.Read.{reading_of, read_leaf, sixteen, places_text, refusal, accepted, answer_of, read_certificate, wrote_as, wrote_places}
use Rattle.leaf.proofs.Writing.{places_length, sixteen_size}

-- the reading of a certificate in which there is a fault, or too many DNS-IDs, or neither
fault_read : (s : List ℕ) (o : Fault) → fields_of s ≡ Err o → read_leaf s ≡ Err (ReadError.Malformed o)
unfolding read_leaf reading_of
fault_read s o e = rw e

many_read : (s : List ℕ) (f : Found) → fields_of s ≡ Ok f → 64 < length (dns_ids_of s f) → read_leaf s ≡ (Err ReadError.ManyDnsIds)
unfolding read_leaf reading_of
many_read s f e h = rw (e, lt-ltb 64 (length (dns_ids_of s f)) h)

is_read : (s : List ℕ) (f : Found) → fields_of s ≡ Ok f → length (dns_ids_of s f) ≤ 64 → read_leaf s ≡ Ok f
unfolding read_leaf reading_of
is_read s f e h = rw (e, le-ltb 64 (length (dns_ids_of s f)) h)

-- A certificate with a fault at an offset: 90, that offset, and seven zeros.
pub fault_answer : (s : List ℕ) (room : ℕ) (o : Fault) → fields_of s ≡ Err o
    → read_certificate s room ≡ record { number = 90; length = 0; offset = o.at; key_start = 0; key_length = 0; dns_id_count = 0; common_name_given = 0; common_name_start = 0; common_name_length = 0 }
unfolding read_certificate answer_of
fault_answer s room o e = rw (fault_read s o e)

module _ (s : List ℕ) (f : Found) (are : fields_of s ≡ Ok f) where
  -- Without a fault and with over 64 DNS-IDs: 91 and eight zeros.
  pub many_answer : (room : ℕ) → 64 < length (dns_ids_of s f)
      → read_certificate s room ≡ record { number = 91; length = 0; offset = 0; key_start = 0; key_length = 0; dns_id_count = 0; common_name_given = 0; common_name_start = 0; common_name_length = 0 }
  unfolding read_certificate answer_of
  many_answer room h = rw (many_read s f are h)

  module _ (few : length (dns_ids_of s f) ≤ 64) where
    -- With at most 64 DNS-IDs and less room than 16 bytes for each: 83 and eight zeros.
    pub short_answer : (room : ℕ) → room < 16 * length (dns_ids_of s f)
        → read_certificate s room ≡ record { number = 83; length = 0; offset = 0; key_start = 0; key_length = 0; dns_id_count = 0; common_name_given = 0; common_name_start = 0; common_name_length = 0 }
    unfolding read_certificate answer_of
    short_answer room l = rw (is_read s f are few, lt-leb (16 * length (dns_ids_of s f)) room l)

    -- With room and a common name: 15, 16 bytes for each DNS-ID, offset 0, the key's place, how many DNS-IDs there are, 1 and the common name's place.
    pub named_answer : (room : ℕ) (p : Part) → 16 * length (dns_ids_of s f) ≤ room → f.name ≡ Some p
        → read_certificate s room ≡ record { number = 15; length = 16 * length (dns_ids_of s f); offset = 0; key_start = f.key.start; key_length = f.key.end - f.key.start; dns_id_count = length (dns_ids_of s f); common_name_given = 1; common_name_start = p.start; common_name_length = p.end - p.start }
    unfolding read_certificate answer_of accepted
    named_answer room p l e = rw (is_read s f are few, le-leb (16 * length (dns_ids_of s f)) room l, e)

    -- With room and no common name: the same with 2 and zeros.
    pub nameless_answer : (room : ℕ) → 16 * length (dns_ids_of s f) ≤ room → f.name ≡ None
        → read_certificate s room ≡ record { number = 15; length = 16 * length (dns_ids_of s f); offset = 0; key_start = f.key.start; key_length = f.key.end - f.key.start; dns_id_count = length (dns_ids_of s f); common_name_given = 2; common_name_start = 0; common_name_length = 0 }
    unfolding read_certificate answer_of accepted
    nameless_answer room l e = rw (is_read s f are few, le-leb (16 * length (dns_ids_of s f)) room l, e)

-- the numbers of the call
abbrev pub is_number : ℕ → Bool
is_number n = eqb n 15 || eqb n 83 || eqb n 90 || eqb n 91

accepted_number : (key : Part) (n : ℕ) (name : Option Part) → (accepted key n name).number ≡ 15
unfolding accepted
accepted_number key n (Some p) = refl
accepted_number key n None = refl

-- The call answers 15, 83, 90 or 91, and so never 0, whatever the bytes.
pub answer_number : (s : List ℕ) (room : ℕ) → is_number (read_certificate s room).number ≡ true
unfolding read_certificate answer_of
answer_number s room = go (read_leaf s)
  where
    fits : (key : Part) (n : ℕ) (name : Option Part) (b : Bool) → is_number (cond b (accepted key n name) (refusal 83 0)).number ≡ true
    fits key n name true = ap is_number (accepted_number key n name)
    fits key n name false = refl

    go : (x : Result Found ReadError) → is_number (answer_of s room x).number ≡ true
    go (Err (ReadError.Malformed o)) = refl
    go (Err ReadError.ManyDnsIds) = refl
    go (Ok f) = fits f.key (length (dns_ids_of s f)) f.name (leb (16 * length (dns_ids_of s f)) room)

-- only a fault in its fields is a fault of a certificate
fault_fields : (s : List ℕ) (w : Result Found Fault) (o : Fault) → reading_of s w ≡ Err (ReadError.Malformed o) → w ≡ Err o
unfolding reading_of
fault_fields s (Err p) o e = cc
fault_fields s (Ok g) o e = go (ltb 64 (length (dns_ids_of s g))) e
  where
    go : (b : Bool) → cond b (Err ReadError.ManyDnsIds) (Ok g) ≡ Err (ReadError.Malformed o) → ◌≡◌ {A = Result Found Fault} (Ok g) (Err o)
    go true e = never cc
    go false e = never cc

accepted_offset : (key : Part) (n : ℕ) (name : Option Part) → (accepted key n name).offset ≡ 0
unfolding accepted
accepted_offset key n (Some p) = refl
accepted_offset key n None = refl

-- The offset of an answer is at most the number of the certificate's bytes.
pub offset_inside : (s : List ℕ) (room : ℕ) → (read_certificate s room).offset ≤ length s
unfolding read_certificate answer_of read_leaf
offset_inside s room = go (reading_of s (fields_of s)) refl
  where
    fits : (key : Part) (n : ℕ) (name : Option Part) (b : Bool) → (cond b (accepted key n name) (refusal 83 0)).offset ≤ length s
    fits key n name true = omega (arith, accepted_offset key n name)
    fits key n name false = omega arith

    go : (x : Result Found ReadError) → reading_of s (fields_of s) ≡ x → (answer_of s room x).offset ≤ length s
    go (Err (ReadError.Malformed o)) e = fault_inside s o (fault_fields s (fields_of s) o e)
    go (Err ReadError.ManyDnsIds) e = omega arith
    go (Ok f) e = fits f.key (length (dns_ids_of s f)) f.name (leb (16 * length (dns_ids_of s f)) room)

-- Under 90 `places` is as it was.
pub fault_places : (s d : List ℕ) (o : Fault) → fields_of s ≡ Err o → wrote_places s d ≡ d
unfolding wrote_places wrote_as
fault_places s d o e = rw (fault_read s o e)

module _ (s d : List ℕ) (f : Found) (are : fields_of s ≡ Ok f) where
  -- Under 91 it is as it was.
  pub many_places : 64 < length (dns_ids_of s f) → wrote_places s d ≡ d
  unfolding wrote_places wrote_as
  many_places h = rw (many_read s f are h)

  module _ (few : length (dns_ids_of s f) ≤ 64) where
    -- Under 83 it is as it was.
    pub short_places : length d < 16 * length (dns_ids_of s f) → wrote_places s d ≡ d
    unfolding wrote_places wrote_as wrote_front
    short_places l = rw (is_read s f are few, lt-leb (length (places_text (dns_ids_of s f))) (length d) (omega (arith, l, places_length (dns_ids_of s f))))

    module _ (room : 16 * length (dns_ids_of s f) ≤ length d) where
      size : length (places_text (dns_ids_of s f)) ≡ 16 * length (dns_ids_of s f)
      size = omega (arith, places_length (dns_ids_of s f))

      wrote : wrote_places s d ≡ places_text (dns_ids_of s f) ++ drop (16 * length (dns_ids_of s f)) d
      unfolding wrote_places wrote_as wrote_front
      wrote = rw (is_read s f are few, le-leb (length (places_text (dns_ids_of s f))) (length d) (omega (arith, room, size)), size)

      -- Under 15 its first 16 bytes for each DNS-ID are the places of the DNS-IDs, in their order.
      pub front_places : take (16 * length (dns_ids_of s f)) (wrote_places s d) ≡ places_text (dns_ids_of s f)
      front_places = rw wrote (take_at (places_text (dns_ids_of s f)) (drop (16 * length (dns_ids_of s f)) d) (16 * length (dns_ids_of s f)) size)

      -- Under 15 the rest of it is as it was.
      pub rest_places : drop (16 * length (dns_ids_of s f)) (wrote_places s d) ≡ drop (16 * length (dns_ids_of s f)) d
      rest_places = rw wrote (drop_at (places_text (dns_ids_of s f)) (drop (16 * length (dns_ids_of s f)) d) (16 * length (dns_ids_of s f)) size)

      -- Where the room is exact all of it is written.
      pub exact_places : length d ≡ 16 * length (dns_ids_of s f) → wrote_places s d ≡ places_text (dns_ids_of s f)
      exact_places e = rw (wrote, drop_of_length-le d {i = 16 * length (dns_ids_of s f)} (omega (arith, e))) (append-nil (places_text (dns_ids_of s f)))

-- The place of the i-th DNS-ID is the i-th sixteen bytes.
pub place_at : (ps : List Part) (i : ℕ) (p : Part) → i < length ps → take 16 (drop (16 * i) (places_text ps)) ≡ sixteen (get_or ps i p)
unfolding each_as
place_at [] i p h = absurd (omega (arith, h))
place_at (q ∷ ps) zero p h = take_at (sixteen q) (places_text ps) 16 (sixteen_size q)
place_at (q ∷ ps) (suc i) p h =
    let z : 16 * suc i ≡ 16 + 16 * i = omega arith in
    rw (z, ← drop-drop (16 * i) 16 (sixteen q ++ places_text ps), drop_at (sixteen q) (places_text ps) 16 (sixteen_size q)) (place_at ps i p (omega (arith, h)))

-- eight bytes, high first, are the number
top_is : (n : ℕ) → n < 2 ^ 64 → 0 * 256 + n / 72057594037927936 % 256 ≡ n / 72057594037927936
top_is n h = omega arith

next_is : (a b : ℕ) → a ≡ b / 256 → a * 256 + b % 256 ≡ b
next_is a b e = omega (arith, e)

eight_is : (n : ℕ) → n < 2 ^ 64 → value_of 0 (eight n) ≡ n
unfolding value_of eight
eight_is n h =
    rw (
      top_is n h,
      next_is (n / 72057594037927936) (n / 281474976710656) (omega arith),
      next_is (n / 281474976710656) (n / 1099511627776) (omega arith),
      next_is (n / 1099511627776) (n / 4294967296) (omega arith),
      next_is (n / 4294967296) (n / 16777216) (omega arith),
      next_is (n / 16777216) (n / 65536) (omega arith),
      next_is (n / 65536) (n / 256) (omega arith),
      next_is (n / 256) n refl,
    )

-- The first eight bytes of a place, read high first, are the part's start.
pub place_start : (p : Part) → p.start < 2 ^ 64 → value_of 0 (take 8 (sixteen p)) ≡ p.start
unfolding sixteen eight
place_start p h = eight_is p.start h

-- The next eight are its length.
pub place_length : (p : Part) → p.end < 2 ^ 64 → value_of 0 (drop 8 (sixteen p)) ≡ p.end - p.start
unfolding sixteen eight
place_length p h = eight_is (p.end - p.start) (omega (arith, h))
