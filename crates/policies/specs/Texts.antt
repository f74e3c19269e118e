-- Document 01, "Policy body": the bytes of a value. Well-formed UTF-8 is RFC 3629's; the rules of its section 4 stand above their definitions.
use Prim.Native.Char.{code}
use Rattle.std.specs.Prelude.{ℕ, ◌-◌, Bool, true, cond, not, ◌&&◌, ◌||◌, List, [], ◌∷◌, eqb, leb, length, get_or}
use Rattle.lists.specs.Bytes.{within}

-- UTF8-tail = %x80-BF
unfoldable pub utf8_tail : ℕ → Bool
utf8_tail b = within 0x80 0xBF b

-- UTF8-2 = %xC2-DF UTF8-tail
unfoldable pub utf8_two : ℕ → ℕ → Bool
utf8_two a b = within 0xC2 0xDF a && utf8_tail b

-- UTF8-3 = %xE0 %xA0-BF UTF8-tail / %xE1-EC 2( UTF8-tail ) / %xED %x80-9F UTF8-tail / %xEE-EF 2( UTF8-tail )
unfoldable pub utf8_three : ℕ → ℕ → ℕ → Bool
utf8_three a b c =
    (eqb a 0xE0 && within 0xA0 0xBF b && utf8_tail c) || (within 0xE1 0xEC a && utf8_tail b && utf8_tail c)
    || (eqb a 0xED && within 0x80 0x9F b && utf8_tail c)
    || (within 0xEE 0xEF a && utf8_tail b && utf8_tail c)

-- UTF8-4 = %xF0 %x90-BF 2( UTF8-tail ) / %xF1-F3 3( UTF8-tail ) / %xF4 %x80-8F 2( UTF8-tail )
unfoldable pub utf8_four : ℕ → ℕ → ℕ → ℕ → Bool
utf8_four a b c d =
    (eqb a 0xF0 && within 0x90 0xBF b && utf8_tail c && utf8_tail d) || (within 0xF1 0xF3 a && utf8_tail b && utf8_tail c && utf8_tail d)
    || (eqb a 0xF4 && within 0x80 0x8F b && utf8_tail c && utf8_tail d)

-- a space, or a byte 21 to 7E
unfoldable pub printable : ℕ → Bool
printable b = within 0x20 0x7E b

-- spaces, bytes 21 to 7E and well-formed sequences of 2 to 4 bytes, one after another
unfoldable pub is_text : List ℕ → Bool
is_text [] = true
is_text (a ∷ []) = printable a
is_text (a ∷ b ∷ []) = cond (printable a) (is_text (b ∷ [])) (utf8_two a b)
is_text (a ∷ b ∷ c ∷ []) = cond (printable a) (is_text (b ∷ c ∷ [])) (cond (utf8_two a b) (is_text (c ∷ [])) (utf8_three a b c))
is_text (a ∷ b ∷ c ∷ d ∷ s) =
    cond (printable a) (is_text (b ∷ c ∷ d ∷ s))
    (cond (utf8_two a b) (is_text (c ∷ d ∷ s))
    (cond (utf8_three a b c) (is_text (d ∷ s))
    (utf8_four a b c d && is_text s)))

-- a value: such a text that begins and ends with no space, so with a byte 21 to 7E or a sequence of 2 to 4 bytes
unfoldable pub is_value : List ℕ → Bool
is_value v = leb 1 (length v) && not (eqb (get_or v 0 0) (code " ")) && not (eqb (get_or v (length v - 1) 0) (code " ")) && is_text v
