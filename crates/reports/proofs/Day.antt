-- A day's history: from all zeros each count is the number of its verdicts, and once 1,000,000,000 are counted the next is refused. The verdicts stand here once more, as
-- literals. Assumes nothing.
use Prim.Native.Nat.{ℕ, ◌+◌, ◌^◌, ◌<◌, ◌≤◌}
use mathlib.Core.Path.{◌≡◌, refl, sym, ap, ◌∙◌}
use mathlib.Core.Bool.{true}
use mathlib.Core.List.{List, [], ◌∷◌, ◌++◌}
use mathlib.Core.Option.{Option, none, some}
use native.Mathlib.Nat.{add-zero, zero-add, add_assoc}
use native.Mathlib.Omega.{arith}
use lib.ListN.{length}
use Rattle.lists.specs.Write.{wrote_front}
use Rattle.numbers.specs.Numbers.{sum, eight}
use Rattle.numbers.proofs.Written.{eight_value}
use Rattle.writing.specs.Answer as Answer
use Rattle.writing.specs.Over.{over}
use Rattle.reports.specs.Counts.{Result, success, dnssec_invalid, starttls_not_supported, validation_failure, result_of, place_of, count_at, counts_of, total_of, one_more}
use Rattle.reports.specs.Calls.{most_sessions, report_count_answer, counts_after}
use Rattle.reports.specs.Day.{zeros, day_after, is_one_of, how_many}
use Rattle.reports.proofs.Results.{here, counts, here_sum, here_success, here_dnssec, here_starttls, here_validation, here_counted}
use Rattle.reports.proofs.Session.{uncounted_stays, counted_answer, counted_more, full_answer, full_stays}

-- ---- the bytes of four counts

abbrev pub bytes_of : (a b c d : ℕ) → List ℕ
bytes_of a b c d = eight a ++ (eight b ++ (eight c ++ eight d))

module _ (a b c d : ℕ) where
  pub bytes_size : length (bytes_of a b c d) ≡ 32
  unfolding eight
  bytes_size = refl

  bytes_first : a < 2 ^ 64 → count_at (bytes_of a b c d) 0 ≡ a
  unfolding count_at eight
  bytes_first h = eight_value a h

  bytes_second : b < 2 ^ 64 → count_at (bytes_of a b c d) 1 ≡ b
  unfolding count_at eight
  bytes_second h = eight_value b h

  bytes_third : c < 2 ^ 64 → count_at (bytes_of a b c d) 2 ≡ c
  unfolding count_at eight
  bytes_third h = eight_value c h

  bytes_fourth : d < 2 ^ 64 → count_at (bytes_of a b c d) 3 ≡ d
  unfolding count_at eight
  bytes_fourth h = eight_value d h

  -- a number written at a place
  over_first : (n : ℕ) → over 0 (eight n) (bytes_of a b c d) ≡ bytes_of n b c d
  unfolding over wrote_front eight
  over_first n = refl

  over_second : (n : ℕ) → over 8 (eight n) (bytes_of a b c d) ≡ bytes_of a n c d
  unfolding over wrote_front eight
  over_second n = refl

  over_third : (n : ℕ) → over 16 (eight n) (bytes_of a b c d) ≡ bytes_of a b n d
  unfolding over wrote_front eight
  over_third n = refl

  over_fourth : (n : ℕ) → over 24 (eight n) (bytes_of a b c d) ≡ bytes_of a b c n
  unfolding over wrote_front eight
  over_fourth n = refl

  -- of which no more are counted than the most
  module _ (few : a + b + c + d ≤ most_sessions) where
    pub read_first : count_at (bytes_of a b c d) 0 ≡ a
    read_first = bytes_first (omega (arith, few))

    pub read_second : count_at (bytes_of a b c d) 1 ≡ b
    read_second = bytes_second (omega (arith, few))

    pub read_third : count_at (bytes_of a b c d) 2 ≡ c
    read_third = bytes_third (omega (arith, few))

    pub read_fourth : count_at (bytes_of a b c d) 3 ≡ d
    read_fourth = bytes_fourth (omega (arith, few))

    bytes_total : total_of (bytes_of a b c d) ≡ a + b + c + d
    unfolding total_of counts_of sum
    bytes_total = omega (arith, read_first, read_second, read_third, read_fourth)

    -- one more at the place of a result
    bytes_more : (r : Result) → one_more (place_of r) (bytes_of a b c d) ≡ bytes_of (a + here 0 (some r)) (b + here 1 (some r)) (c + here 2 (some r)) (d + here 3 (some r))
    unfolding one_more place_of here
    bytes_more success = rw (read_first, add-zero b, add-zero c, add-zero d) (over_first (a + 1))
    bytes_more dnssec_invalid = rw (read_second, add-zero a, add-zero c, add-zero d) (over_second (b + 1))
    bytes_more starttls_not_supported = rw (read_third, add-zero a, add-zero b, add-zero d) (over_third (c + 1))
    bytes_more validation_failure = rw (read_fourth, add-zero a, add-zero b, add-zero c) (over_fourth (d + 1))

  -- a session with any verdict, while there is room
  bytes_next : (v : ℕ) (o : Option Result) → result_of v ≡ o → a + b + c + d + counts o ≤ most_sessions → counts_after v (bytes_of a b c d) ≡ bytes_of (a + here 0 o) (b + here 1 o) (c + here 2 o) (d + here 3 o)
  unfolding here counts
  bytes_next v none e h = uncounted_stays v (bytes_of a b c d) e ∙ rw (add-zero a, add-zero b, add-zero c, add-zero d)
  bytes_next v (some r) e h =
      let few : a + b + c + d ≤ most_sessions = omega (arith, h) in
      counted_more v r (bytes_of a b c d) e bytes_size (omega (arith, h, bytes_total few)) ∙ bytes_more few r

-- ---- histories

-- the verdicts that are counted
abbrev pub counted_verdicts : List ℕ
counted_verdicts = 3 ∷ 4 ∷ 5 ∷ 22 ∷ 23 ∷ 24 ∷ 25 ∷ 26 ∷ 27 ∷ 28 ∷ []

-- the counts' bytes after a history, from any four counts
history : (vs : List ℕ) (a b c d : ℕ) → a + b + c + d + how_many counted_verdicts vs ≤ most_sessions
    → day_after vs (bytes_of a b c d) ≡ bytes_of (a + how_many (3 ∷ 4 ∷ 5 ∷ []) vs) (b + how_many (22 ∷ []) vs) (c + how_many (24 ∷ []) vs) (d + how_many (23 ∷ 25 ∷ 26 ∷ 27 ∷ 28 ∷ []) vs)
unfolding day_after how_many
history [] a b c d h = rw (add-zero a, add-zero b, add-zero c, add-zero d)
history (v ∷ vs) a b c d h =
    let o : Option Result = result_of v in
    let step : counts_after v (bytes_of a b c d) ≡ bytes_of (a + here 0 o) (b + here 1 o) (c + here 2 o) (d + here 3 o) = bytes_next a b c d v o refl (omega (arith, h, here_counted v)) in
    let rest = history vs (a + here 0 o) (b + here 1 o) (c + here 2 o) (d + here 3 o) (omega (arith, h, here_counted v, here_sum o)) in
    ap (day_after vs) step ∙ (rest ∙ rw (here_success v, here_dnssec v, here_starttls v, here_validation v) (simp add_assoc))

zeros_are : zeros ≡ bytes_of 0 0 0 0
unfolding eight
zeros_are = refl

-- ---- the claim

module _ (vs : List ℕ) where
  -- the counts after the day's history
  abbrev after : List ℕ
  after = day_after vs zeros

  -- what is said of them
  pub record Day : Type 0 where
    -- the counts, in their bytes
    pub bytes : after ≡ bytes_of (how_many (3 ∷ 4 ∷ 5 ∷ []) vs) (how_many (22 ∷ []) vs) (how_many (24 ∷ []) vs) (how_many (23 ∷ 25 ∷ 26 ∷ 27 ∷ 28 ∷ []) vs)
    pub size : length after ≡ 32
    -- each count equals its verdicts in the history
    pub successes : count_at after 0 ≡ how_many (3 ∷ 4 ∷ 5 ∷ []) vs
    pub dnssec_invalid_lem : count_at after 1 ≡ how_many (22 ∷ []) vs
    pub starttls_not_supported_lem : count_at after 2 ≡ how_many (24 ∷ []) vs
    pub validation_failures : count_at after 3 ≡ how_many (23 ∷ 25 ∷ 26 ∷ 27 ∷ 28 ∷ []) vs
    pub total : total_of after ≡ how_many counted_verdicts vs
    -- the next counted one is counted while there are fewer than 1,000,000,000, and then refused, counts unchanged
    pub next : (v : ℕ) → is_one_of counted_verdicts v ≡ true → how_many counted_verdicts vs < 1000000000 → report_count_answer v after ≡ Answer.success 0
    pub refused : (v : ℕ) → is_one_of counted_verdicts v ≡ true → how_many counted_verdicts vs ≡ 1000000000 → (report_count_answer v after ≡ Answer.refusal 73) × (counts_after v after ≡ after)

-- the counted verdicts are the four kinds together
counted_sum : (vs : List ℕ) → how_many (3 ∷ 4 ∷ 5 ∷ []) vs + how_many (22 ∷ []) vs + how_many (24 ∷ []) vs + how_many (23 ∷ 25 ∷ 26 ∷ 27 ∷ 28 ∷ []) vs ≡ how_many counted_verdicts vs
unfolding how_many
counted_sum [] = refl
counted_sum (v ∷ vs) = omega (arith, counted_sum vs, here_success v, here_dnssec v, here_starttls v, here_validation v, here_counted v, here_sum (result_of v))

-- a counted verdict has a result
counted_result : (v : ℕ) → is_one_of counted_verdicts v ≡ true → {P : Type 0} → ((r : Result) → result_of v ≡ some r → P) → P
unfolding counts
counted_result v h {P} f = go (result_of v) refl (sym (here_counted v) ∙ rw h)
  where
    go : (o : Option Result) → result_of v ≡ o → counts o ≡ 1 → P
    go none e k = absurd (omega (arith, k))
    go (some r) e k = f r e

module _ (vs : List ℕ) (h : how_many counted_verdicts vs ≤ 1000000000) where
  abbrev a : ℕ
  a = how_many (3 ∷ 4 ∷ 5 ∷ []) vs

  abbrev b : ℕ
  b = how_many (22 ∷ []) vs

  abbrev c : ℕ
  c = how_many (24 ∷ []) vs

  abbrev d : ℕ
  d = how_many (23 ∷ 25 ∷ 26 ∷ 27 ∷ 28 ∷ []) vs

  few : a + b + c + d ≤ most_sessions
  few = omega (arith, h, counted_sum vs)

  day_bytes : after vs ≡ bytes_of a b c d
  day_bytes = ap (day_after vs) zeros_are ∙ (history vs 0 0 0 0 (omega (arith, h)) ∙ rw (zero-add a, zero-add b, zero-add c, zero-add d))

  day_size : length (after vs) ≡ 32
  day_size = ap length day_bytes ∙ bytes_size a b c d

  day_total : total_of (after vs) ≡ how_many counted_verdicts vs
  day_total = ap total_of day_bytes ∙ (bytes_total a b c d few ∙ counted_sum vs)

  -- Document 02, No. 9: "From all zeros, each count equals its verdicts in the day's history, for up to 1,000,000,000 in all; the next counted one is refused with 73,
  -- counts unchanged."
  pub day : Day vs
  day = record {
    bytes = day_bytes;
    size = day_size;
    successes = ap (λ (s : List ℕ). count_at s 0) day_bytes ∙ read_first a b c d few;
    dnssec_invalid_lem = ap (λ (s : List ℕ). count_at s 1) day_bytes ∙ read_second a b c d few;
    starttls_not_supported_lem = ap (λ (s : List ℕ). count_at s 2) day_bytes ∙ read_third a b c d few;
    validation_failures = ap (λ (s : List ℕ). count_at s 3) day_bytes ∙ read_fourth a b c d few;
    total = day_total;
    next = λ v i l. counted_result v i (λ r e. counted_answer v r (after vs) e day_size (omega (arith, l, day_total)));
    refused = λ v i l. counted_result v i (λ r e. (full_answer v r (after vs) e day_size (day_total ∙ l), full_stays v r (after vs) e day_size (day_total ∙ l)));
  }

  -- so once 1,000,000,000 are counted nothing changes any more, whatever comes
  pub day_full : how_many counted_verdicts vs ≡ 1000000000 → (ws : List ℕ) → day_after ws (after vs) ≡ after vs
  unfolding day_after
  day_full l [] = refl
  day_full l (v ∷ ws) = ap (day_after ws) (stays (result_of v) refl) ∙ day_full l ws
    where
      stays : (o : Option Result) → result_of v ≡ o → counts_after v (after vs) ≡ after vs
      stays none e = uncounted_stays v (after vs) e
      stays (some r) e = full_stays v r (after vs) e day_size (day_total ∙ l)
