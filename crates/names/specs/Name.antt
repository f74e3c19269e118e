-- Document 01, "Names and matching".
use Prim.Native.Char.{code}
use Rattle.std.specs.Prelude.{ℕ, ◌+◌, ◌-◌, Bool, cond, not, ◌&&◌, ◌||◌, List, eqb, leb, length, get_or, drop}
use Rattle.lists.specs.Bytes.{within, all, any}
use Rattle.lists.specs.Equal.{same_text}
use Rattle.lists.specs.Split.{index_of, split}
use Rattle.names.specs.declared.Pattern.{Pattern}
use Rattle.names.specs.declared.Pattern.TheVariants.{Malformed, Matching, Other}

-- a letter, a digit or a hyphen
unfoldable pub label_byte : ℕ → Bool
label_byte b = within (code "a") (code "z") b || within (code "A") (code "Z") b || within (code "0") (code "9") b || eqb b (code "-")

-- a label: 1 to 63 letters, digits and hyphens, no hyphen at either end
unfoldable pub is_label : List ℕ → Bool
is_label l = within 1 63 (length l) && not (eqb (get_or l 0 0) (code "-")) && not (eqb (get_or l (length l - 1) 0) (code "-")) && all label_byte l

-- a name: 1 to 253 bytes, labels joined by single dots (no final dot: an empty text is no label)
unfoldable pub is_name : List ℕ → Bool
is_name s = within 1 253 (length s) && all is_label (split (code ".") s)

-- what begins with `*.`
unfoldable pub is_starred : List ℕ → Bool
is_starred p = leb 2 (length p) && eqb (get_or p 0 0) (code "*") && eqb (get_or p 1 0) (code ".")

-- `*.N`, with N a name
unfoldable pub is_wildcard : List ℕ → Bool
is_wildcard p = is_starred p && is_name (drop 2 p)

-- a pattern: a name, or `*.` and a name
unfoldable pub is_pattern : List ℕ → Bool
is_pattern p = is_name p || is_wildcard p

-- what follows the first dot
abbrev pub after_first : List ℕ → List ℕ
after_first n = drop (index_of (code ".") n + 1) n

-- p matches the name n: a plain name the equal name only, `*.N` the names made of one label, a dot and N, ignoring ASCII case; anything else nothing
unfoldable pub matches_name : List ℕ → List ℕ → Bool
matches_name p n = is_name n && (is_name p && same_text p n || is_wildcard p && same_text (drop 2 p) (after_first n))

-- what p is for the name n: no pattern; or a pattern that matches n, or another
unfoldable pub pattern_for : List ℕ → List ℕ → Pattern
pattern_for p n = cond (is_pattern p) (cond (matches_name p n) Matching Other) Malformed

-- one of some patterns or presented names matches the name n
abbrev pub some_matches : List (List ℕ) → List ℕ → Bool
some_matches ps n = any (λ (p : List ℕ). matches_name p n) ps
