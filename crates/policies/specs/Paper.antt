-- Read this first. Document 01, "Policy body" (RFC 8461, 3.2), written as the paper writes it: the bodies that have certain fields, and the policy that the fields
-- make. The other files of specs/ say what the library does with a body and which fault it finds first; the laws `accepts` and `accepted` (proofs/Paper.antt) say
-- that this is the same: a body is read as a policy exactly where it writes that policy, as below.
use Prim.Native.Char.{code}
use Rattle.std.specs.Prelude.{ℕ, ◌≤◌, ◌≡◌, true, cond, ◌&&◌, List, [], ◌∷◌, ◌++◌, length}
use Rattle.std.proofs.Math.Option.{Option, none, some}
use Rattle.lists.specs.Bytes.{within, all}
use Rattle.lists.specs.Equal.{same_bytes}
use Rattle.lists.specs.Text.{text}
use Rattle.names.specs.Name.{is_pattern}
use Rattle.clock.specs.Clock.{lifetime_of}
use Rattle.fields.specs.Blank.{blank}
use Rattle.fields.specs.Name.{is_field_name}
use Rattle.policies.specs.declared.Mode.{Mode}
use Rattle.policies.specs.declared.Mode.TheVariants as M
use Rattle.policies.specs.Texts.{is_value}
use Rattle.policies.specs.Lines.{LF, CR}
use Rattle.policies.specs.Fields.{is_digit, decimal_after}
use Rattle.policies.specs.Policy.{Policy, longest_body, has_patterns}

-- a field's name and its value
pub record Pair : Type 0 where
  pub name : List ℕ
  pub value : List ℕ

-- a line: a name n, `:`, blanks b, a value v, blanks c
pub data Line : List ℕ → Pair → Type 0 where
  line : (n b v c : List ℕ) → is_field_name n ≡ true → all blank b ≡ true → is_value v ≡ true → all blank c ≡ true → Line (n ++ (code ":" ∷ (b ++ (v ++ c)))) (record { name = n; value = v })

-- a body with its fields: lines that end in LF or CRLF, the last end optional. Zero bytes stand here as what follows the last line: alone they make no policy, and are malformed (`body_fault`)
pub data Body : List ℕ → List Pair → Type 0 where
  nothing : Body [] []
  last : {l : List ℕ} {f : Pair} → Line l f → Body l (f ∷ [])
  lf : {l s : List ℕ} {f : Pair} {fs : List Pair} → Line l f → Body s fs → Body (l ++ (LF ∷ s)) (f ∷ fs)
  crlf : {l s : List ℕ} {f : Pair} {fs : List Pair} → Line l f → Body s fs → Body (l ++ (CR ∷ LF ∷ s)) (f ∷ fs)

-- the value of the first field of this name, where there is one
unfoldable pub first_value : List ℕ → List Pair → Option (List ℕ)
first_value name [] = none
first_value name (f ∷ fs) = cond (same_bytes f.name name) (some f.value) (first_value name fs)

-- the values of all fields of this name, in order
unfoldable pub values : List ℕ → List Pair → List (List ℕ)
values name [] = []
values name (f ∷ fs) = cond (same_bytes f.name name) (f.value ∷ values name fs) (values name fs)

-- the text of a mode
unfoldable pub mode_text : Mode → List ℕ
mode_text M.Enforce = text "enforce"
mode_text M.Testing = text "testing"
mode_text M.None = text "none"

-- the fields make the policy p: the first version is `STSv1`; the first mode is its mode; the first max_age is 1 to 10 digits, which write its lifetime, one above
-- 31,557,600 counting as 31,557,600; every mx is a name or `*.` and a name, and these are its patterns; there is one unless the mode is none
pub record Makes (fs : List Pair) (p : Policy) : Type 0 where
  pub version : first_value (text "version") fs ≡ some (text "STSv1")
  pub mode : first_value (text "mode") fs ≡ some (mode_text p.mode)
  pub age : List ℕ
  pub max_age : first_value (text "max_age") fs ≡ some age
  pub digits : (within 1 10 (length age) && all is_digit age) ≡ true
  pub lifetime : p.lifetime ≡ lifetime_of (decimal_after 0 age)
  pub mx : p.patterns ≡ values (text "mx") fs
  pub names : all is_pattern p.patterns ≡ true
  pub enough : has_patterns p.mode p.patterns ≡ true

-- the body s writes the policy p: it has at most 65,536 bytes, and fields that make p
pub record Writes (s : List ℕ) (p : Policy) : Type 0 where
  pub fields : List Pair
  pub body : Body s fields
  pub makes : Makes fields p
  pub fits : length s ≤ longest_body
