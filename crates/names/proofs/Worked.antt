-- Names and matching at the edges of document 01's rules, and comparisons with their pairs (document 02, No. 4), by computation.
use Prim.Native.Char.{code}
use Prim.Native.Nat.{ℕ}
use mathlib.Core.Path.{◌≡◌, refl}
use mathlib.Core.Bool.{true, false}
use mathlib.Core.List.{List, [], ◌∷◌, ◌++◌, map}
use lib.ListN.{replicate}
use Rattle.lists.specs.Bytes.{all, lower_of}
use Rattle.lists.specs.Equal.{agree, same_letter}
use Rattle.lists.specs.Split.{split, to_first, index_of}
use Rattle.lists.specs.Text.{text}
use Rattle.names.specs.declared.Comparison.{Comparison}
use Rattle.names.specs.Pairs.{pairs_read, comparison}
use Rattle.names.specs.Name.{is_name, is_label, label_byte, is_starred, is_wildcard, is_pattern, matches_name}

-- n letters
abbrev letters : ℕ → List ℕ
letters n = replicate n (code "a")

-- four labels with their dots, of which the last has n bytes: 192 + n bytes
abbrev long : ℕ → List ℕ
long n = letters 63 ++ (code "." ∷ letters 63 ++ (code "." ∷ letters 63 ++ (code "." ∷ letters n)))

names :
    map is_name
    (text "www.example-1.org" ∷ text "a" ∷ text "EXAMPLE.Com" ∷ text "1.2.3" ∷ text "xn--d1acufc.example"
    ∷ letters 63 ∷ long 61
    ∷ [])
    ≡ true ∷ true ∷ true ∷ true ∷ true ∷ true ∷ true ∷ []
unfolding is_name is_label label_byte all split to_first
names = refl

no_names :
    map is_name
    ([] ∷ text "." ∷ text "a." ∷ text ".a" ∷ text "a..b" ∷ text "-a" ∷ text "a-" ∷ text "a.-b" ∷ text "a-.b"
    ∷ text "a_b" ∷ text "a b" ∷ text "*.a" ∷ (128 ∷ []) ∷ (255 ∷ text ".a") ∷ (0 ∷ [])
    ∷ letters 64 ∷ long 62
    ∷ [])
    ≡ replicate 17 false
unfolding is_name is_label label_byte all split to_first
no_names = refl

patterns :
    map is_pattern (text "*.a" ∷ text "a.b" ∷ (text "*." ++ long 61) ∷ text "*." ∷ text "*" ∷ text "*.*.a" ∷ text "**.a" ∷ text "a.*" ∷ (text "*." ++ long 62) ∷ [])
    ≡ true ∷ true ∷ true ∷ false ∷ false ∷ false ∷ false ∷ false ∷ false ∷ []
unfolding is_pattern is_starred is_wildcard is_name is_label label_byte all split to_first
patterns = refl

matching :
    matches_name (text "*.example.com") (text "mail.example.com")
    ∷ matches_name (text "*.Example.COM") (text "MAIL.eXample.com")
    ∷ matches_name (text "mail.example.com") (text "Mail.Example.Com")
    ∷ []
    ≡ true ∷ true ∷ true ∷ []
unfolding matches_name is_starred is_wildcard is_name is_label label_byte all split to_first agree same_letter lower_of index_of
matching = refl

not_matching :
    matches_name (text "*.example.com") (text "example.com")
    ∷ matches_name (text "*.example.com") (text "a.b.example.com")
    ∷ matches_name (text "*.example.com") (text ".example.com")
    ∷ matches_name (text "*.example.com") (text "mailexample.com")
    ∷ matches_name (text "*.com") (text "com")
    ∷ matches_name (text "example.com") (text "www.example.com")
    ∷ matches_name (text "m*.example.com") (text "mail.example.com")
    ∷ matches_name (text "*.*.com") (text "*.*.com")
    ∷ matches_name (text "a.") (text "a.")
    ∷ matches_name [] []
    ∷ matches_name (text "*.") (text "a.")
    ∷ []
    ≡ replicate 11 false
unfolding matches_name is_starred is_wildcard is_name is_label label_byte all split to_first agree same_letter lower_of index_of
not_matching = refl

-- ---- document 02, No. 4: the answer, and the byte pairs read
abbrev equal_in : ℕ → Comparison
equal_in n = record { equal = true; pairs = n }

abbrev unequal_in : ℕ → Comparison
unequal_in n = record { equal = false; pairs = n }

-- all pairs of equal texts, whatever the case of their letters
equal_texts :
    comparison [] []
    ∷ comparison (text "a") (text "A")
    ∷ comparison (text "example.com") (text "example.com")
    ∷ comparison (text "Mail.EXAMPLE.com") (text "mAIL.example.COM")
    ∷ comparison (long 61) (long 61)
    ∷ []
    ≡ equal_in 0 ∷ equal_in 1 ∷ equal_in 11 ∷ equal_in 16 ∷ equal_in 253 ∷ []
unfolding comparison pairs_read agree same_letter lower_of
equal_texts = refl

-- none for unequal lengths, also where the one is the end or the front of the other
unequal_lengths_read_none :
    comparison [] (text "a")
    ∷ comparison (text "a") []
    ∷ comparison (text "mail.example.com") (text "example.com")
    ∷ comparison (text "example.com") (text "example.com.")
    ∷ comparison (long 61) (long 60)
    ∷ []
    ≡ replicate 5 (unequal_in 0)
unfolding comparison pairs_read agree same_letter lower_of
unequal_lengths_read_none = refl

-- else up to and with the rightmost that differs: the rightmost pair, one in the middle, the leftmost; of two that differ, the rightmost
different_texts :
    comparison (text "a") (text "b")
    ∷ comparison (text "example.net") (text "example.com")
    ∷ comparison (text "mx1.example.com") (text "mx2.EXAMPLE.com")
    ∷ comparison (text "aexample.com") (text "bexample.com")
    ∷ comparison (text "mx1.example.com") (text "mx2.example.org")
    ∷ comparison (letters 253) (code "b" ∷ letters 252)
    ∷ []
    ≡ unequal_in 1 ∷ unequal_in 1 ∷ unequal_in 13 ∷ unequal_in 12 ∷ unequal_in 1 ∷ unequal_in 253 ∷ []
unfolding comparison pairs_read agree same_letter lower_of
different_texts = refl

-- bytes that are 32 apart are the same only where they are letters: @ and `, [ and {, and bytes above 127 are not
beside_letters :
    comparison (text "@a") (text "`a")
    ∷ comparison (text "[a") (text "{a")
    ∷ comparison (193 ∷ text "a") (225 ∷ text "a")
    ∷ comparison (text "AZ") (text "az")
    ∷ []
    ≡ unequal_in 2 ∷ unequal_in 2 ∷ unequal_in 2 ∷ equal_in 2 ∷ []
unfolding comparison pairs_read agree same_letter lower_of
beside_letters = refl
