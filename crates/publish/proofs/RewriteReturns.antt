-- What `rewrite_policy` and the functions below it return: the patterns of a body's lines, one by one, and the policy that is kept. Assumes nothing.
use Prim.Native.Nat.{ℕ, ◌+◌, ◌<◌, ◌≤◌}
use mathlib.Core.Path.{◌≡◌, refl, sym, ap, ◌∙◌}
use mathlib.Core.Bool.{Bool, true, false}
use mathlib.Core.List.{List, [], ◌∷◌}
use mathlib.Core.Option.{none, some}
use native.Mathlib.Omega.{arith}
use lib.Dec.{eqb, leb}
use lib.ListN.{length, drop}
use borrow.Author.Tests.{le-leb, lt-leb, eq-eqb, ne_eqb, eqb-true, eqb-false}
use Rattle.std.specs.Prelude.{Result, Ok, Err, IsErr, IsErrAnd}
use Rattle.lists.specs.Bytes.{within}
use Rattle.lists.specs.Check.{refusal_of}
use Rattle.lists.specs.Split.{index_of}
use Rattle.lists.specs.Text.{text}
use Rattle.lists.proofs.Bools.{apart}
use Rattle.policies.specs.declared.Mode.{Mode}
use Rattle.policies.specs.declared.Mode.TheVariants as M
use Rattle.policies.specs.declared.PolicyAnswer.{PolicyAnswer}
use Rattle.policies.specs.Lines.{lines}
use Rattle.policies.specs.Fields.{is_named, value_of, patterns}
use Rattle.policies.specs.Policy.{policy, mode_number, answer_to, policy_answer, patterns_of}
use Rattle.policies.specs.Reader.{line_to, line_at, line_end}
use Rattle.policies.proofs.Body.{lines_at}
use Rattle.policies.proofs.Sanity.{Accepts, accepted_answer}
use Rattle.publish.specs.declared.body.Policy.{Policy}
use Rattle.publish.specs.declared.Refusal.{Refusal}
use Rattle.publish.specs.declared.Refusal.TheVariants as R
use Rattle.publish.specs.Texts.{policy_text}
use Rattle.publish.specs.Calls.{mode_from, rewrite_checks, text_of, rewritten}
use Rattle.publish.specs.Steps.{moded, agrees}
use Rattle.publish.proofs.PolicyBack.{kept_most}
use Rattle.publish.proofs.PolicyReturns.{moded_is, moded_none}

-- ---- `MxLines::next`: a turn of its loop over a body s that is not empty, whose first line ends at e, and of which r is left
no_lines : (s : List ℕ) → length s ≡ 0 → patterns_of s ≡ []
unfolding patterns_of lines patterns
no_lines [] h = refl
no_lines (b ∷ s) h = absurd (omega (arith, h))

module _ (s : List ℕ) (b : Bool) (asked : b ≡ eqb (length s) 0) where
  pub not_empty : b ≡ false → 0 < length s
  not_empty f = let n : (length s ≡ 0 → ⊥) = eqb-false (length s) 0 (sym asked ∙ f) in omega (arith, n)

  pub no_patterns : b ≡ true → patterns_of s ≡ []
  no_patterns t = no_lines s (eqb-true (length s) 0 (sym asked ∙ t))

module _ (s : List ℕ) (h : 0 < length s) (e : ℕ) (ends : e ≡ 0 + index_of 10 (drop 0 s)) (r : List ℕ) (left : r ≡ drop (e + 1) s) where
  first_line : patterns_of s ≡ patterns (line_at s 0 ∷ lines r)
  unfolding patterns_of line_end
  first_line = ap patterns (lines_at s 0 h ∙ ap (λ (x : List ℕ). line_at s 0 ∷ lines x) (rw (sym ends) (sym left)))

  module _ (named : Bool) (asked : named ≡ is_named (text "mx") (line_at s 0)) where
    pub other_line : named ≡ false → patterns_of s ≡ patterns_of r
    unfolding patterns patterns_of
    other_line f = first_line ∙ rw (sym asked ∙ f)

    pub mx_line : named ≡ true → (l : List ℕ) → l ≡ line_to s 0 e → (v : List ℕ) → v ≡ value_of l → patterns_of s ≡ v ∷ patterns_of r
    unfolding patterns patterns_of line_at line_end
    mx_line f l g v k = first_line ∙ rw (sym asked ∙ f, k, g, ends)

-- `rewrite_policy`: r is what `read_policy` gave
numbered_mode : (m : Mode) → mode_from (mode_number m) ≡ m
unfolding mode_number
numbered_mode M.Enforce = refl
numbered_mode M.Testing = refl
numbered_mode M.None = refl

module _ (s : List ℕ) (r : PolicyAnswer) (gave : r ≡ policy_answer s) where
  module _ (h : r.number ≡ 7 → ⊥) where
    not_a_policy : refusal_of (rewrite_checks s) ≡ some r.number
    unfolding rewrite_checks refusal_of
    not_a_policy = rw (← gave, ne_eqb r.number 7 h)

    pub kept_no_policy : agrees (Err (R.BadBody r.number)) (rewrite_checks s) (rewritten s)
    unfolding agrees
    kept_no_policy = not_a_policy

  module _ (is : r.number ≡ 7) where
    accepts : Accepts s
    accepts = accepted_answer s (rw (← gave) is)

    is_policy : eqb (policy_answer s).number 7 ≡ true
    is_policy = rw (← gave) (eq-eqb r.number 7 is)

    answer_is : r ≡ answer_to (policy accepts.read)
    unfolding policy_answer
    answer_is = gave ∙ ap answer_to accepts.reads

    text_is : rewritten s ≡ policy_text (mode_from r.mode) r.lifetime (patterns_of s)
    unfolding answer_to text_of
    text_is =
        let m : accepts.read.mode ≡ mode_from r.mode = sym (ap (λ (a : PolicyAnswer). mode_from a.mode) answer_is ∙ numbered_mode accepts.read.mode) in
        let n : accepts.read.lifetime.0 ≡ r.lifetime = sym (ap (λ (a : PolicyAnswer). a.lifetime) answer_is) in
        ap text_of accepts.reads
        ∙ (ap (λ (x : Mode). policy_text x accepts.read.lifetime.0 accepts.read.patterns) m
        ∙ (ap (λ (x : ℕ). policy_text (mode_from r.mode) x accepts.read.patterns) n ∙ ap (policy_text (mode_from r.mode) r.lifetime) accepts.patterns))

    module _ (h : 16 < r.mx_count) where
      too_many : refusal_of (rewrite_checks s) ≡ some 81
      unfolding rewrite_checks refusal_of
      too_many =
          let k : leb (policy_answer s).mx_count 16 ≡ false = rw (← gave) (lt-leb r.mx_count 16 h) in
          rw (is_policy, k)

      pub kept_too_many : agrees (Err R.BadPatterns) (rewrite_checks s) (rewritten s)
      unfolding agrees
      kept_too_many = too_many

    module _ (few : r.mx_count ≤ 16) where
      body_most : length (policy_text (mode_from r.mode) r.lifetime (patterns_of s)) ≤ 4207
      unfolding text_of
      body_most =
          let count : length accepts.read.patterns ≤ 16 = omega (arith, few, ap (λ (a : PolicyAnswer). a.mx_count) gave, accepts.count, ap length accepts.patterns) in
          rw (← text_is, ap text_of accepts.reads) (kept_most s accepts.read accepts.reads count)

      passed : refusal_of (rewrite_checks s) ≡ none
      unfolding rewrite_checks refusal_of
      passed =
          let k : leb (policy_answer s).mx_count 16 ≡ true = rw (← gave) (le-leb r.mx_count 16 few) in
          rw (is_policy, k)

      mode_is : (m : Mode) → Ok m ≡ moded r.mode → m ≡ mode_from r.mode
      mode_is m e = (moded_is r.mode m e).1

      pub kept_short : (m : Mode) → Ok m ≡ moded r.mode → length (policy_text m r.lifetime (patterns_of s)) ≤ 4207
      kept_short m e = rw (mode_is m e) body_most

      pub kept_good : (m : Mode) → Ok m ≡ moded r.mode → (refusal_of (rewrite_checks s) ≡ none) × (policy_text m r.lifetime (patterns_of s) ≡ rewritten s)
      kept_good m e = (passed, ap (λ (x : Mode). policy_text x r.lifetime (patterns_of s)) (mode_is m e) ∙ sym text_is)

      -- the mode of a policy that was read is one
      pub kept_no_mode : (a : Result Policy Refusal) (e : Refusal) → IsErr a × IsErrAnd a (λ f. f ≡ e) → Err e ≡ moded r.mode → agrees a (rewrite_checks s) (rewritten s)
      unfolding answer_to mode_number
      kept_no_mode a e h g = apart (sym (moded_none r.mode e g).0 ∙ (rw (ap (λ (x : PolicyAnswer). x.mode) answer_is) (numbered accepts.read.mode)))
        where
          numbered : (m : Mode) → within 1 3 (mode_number m) ≡ true
          numbered M.Enforce = refl
          numbered M.Testing = refl
          numbered M.None = refl
