-- Document 01, "TXT record" and "Policy body": blanks, any number of spaces or tabs.
use Prim.Native.Char.{code}
use Rattle.std.specs.Prelude.{ℕ, Bool, ◌||◌, List, eqb, drop}
use Rattle.lists.specs.Span.{span_of, trimmed_length, trimmed}

-- a space or a tab
unfoldable pub blank : ℕ → Bool
blank b = eqb b (code " ") || eqb b (code "\t")

-- what follows the blanks at the front of a text
abbrev pub after_blanks : List ℕ → List ℕ
after_blanks s = drop (span_of blank s) s

-- how many bytes a text has without the blanks at its end
abbrev pub unblanked : List ℕ → ℕ
unblanked s = trimmed_length blank s

-- a text without the blanks at its end
abbrev pub before_blanks : List ℕ → List ℕ
before_blanks s = trimmed blank s
