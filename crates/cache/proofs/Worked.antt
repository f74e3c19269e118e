-- A run by computing, so that the claims on runs are not about nothing: 64 domains fill an empty table; one second before the first entry is stale a store for another domain is refused with 70;
-- from its last second on the entry is taken for that domain, which finds its policy there, and the first domain finds nothing. Assumes nothing.
use Prim.Native.Nat.{ℕ, zero, suc, ◌+◌, ◌/◌, ◌%◌}
use mathlib.Core.Path.{◌≡◌, refl, ap, ◌∙◌}
use mathlib.Core.Bool.{Bool, true, false, cond, ◌&&◌}
use mathlib.Core.List.{List, [], ◌∷◌}
use mathlib.Core.Option.{Option, none, some}
use lib.Dec.{eqb, leb, ltb}
use lib.ListN.{length, set, replicate, length-replicate}
use borrow.Author.Tests.{le-leb, ltb-true}
use Rattle.lists.specs.Bytes.{all, any, lower_of}
use Rattle.lists.specs.Equal.{agree, same_byte, same_letter}
use Rattle.lists.specs.Span.{span_of, trimmed_length}
use Rattle.lists.specs.Split.{index_of, split, to_first}
use Rattle.lists.specs.Text.{text}
use Rattle.lists.specs.Place.{first_place}
use Rattle.lists.specs.Check.{refusal_of}
use Rattle.lists.proofs.Bools.{never}
use Rattle.lists.proofs.Trim.{trim_whole}
use Rattle.names.proofs.Cover.{nothing_no_name}
use Rattle.names.specs.Name.{label_byte, is_label, is_name, is_starred, is_wildcard, is_pattern}
use Rattle.clock.specs.Clock.{capped_age, is_reading, time_left, is_live}
use Rattle.fields.specs.Blank.{blank}
use Rattle.fields.specs.Name.{letter_or_digit, name_byte, is_field_name, has_name}
use Rattle.policies.specs.Texts.{utf8_tail, utf8_two, utf8_three, utf8_four, printable, is_text, is_value}
use Rattle.policies.specs.Lines.{lines, line_start}
use Rattle.policies.specs.Fields.{name_of, value_of, is_line, is_named, first_named, patterns, is_version, mode_of, is_digit, decimal_after, age_of, is_there, is_first, cause_after}
use Rattle.policies.specs.Policy.{fault_at, or_later, first_fault, body_fault, mode_in, age_in, has_patterns, complete, completed, judged, read_body, mode_number, answer_to as policy_to, policy_answer}
use Rattle.txt.specs.Paper.{is_id}
use Rattle.writing.specs.Answer.{success, refusal, answer_unless}
use Rattle.cache.specs.declared.CacheEntry.{CacheEntry}
use Rattle.cache.specs.Held.{Held, is_zero, zeros, filled, is_policy, text_at, fields_fit, is_accepted, held_in, held_from, contents, no_entry}
use Rattle.cache.specs.Store.{is_live_at, is_own, is_empty, is_stale, else_place, store_place, sizes_fit, argument_checks, store_refusal, store_answer, clock_and_name}
use Rattle.cache.specs.Lookup.{if_live, live_for}
use Rattle.cache.specs.Runs.{Memory, is_empty_table, Call, store, lookup, clock_of, found, answer_to, after, reached, rises}
use Rattle.cache.proofs.Fill.{all_zeros}
use Rattle.cache.proofs.Stored.{held_length, given, Good}
use Rattle.cache.proofs.Steps.{Sound, sound_empty, sound_after, sound_reached, good_args, refused_kept, refused_args, by_place, holds, shown, lookup_shows}

-- what a store's arguments have to be
unfoldable pub accepts : ℕ → (d i p : List ℕ) → Bool
accepts clock d i p = is_reading clock && is_name d && is_id i && is_policy p && leb (length p) 1024

-- what a call leaves in a table that holds c
unfoldable pub kept_after : Call → List (Option Held) → List (Option Held)
kept_after (store clock d i p) c = cond (accepts clock d i p && ltb (store_place clock d c) (length c)) (set c (store_place clock d c) (some (given clock d i p))) c
kept_after (lookup clock d) c = c

unfoldable pub kept_all : List Call → List (Option Held) → List (Option Held)
kept_all [] c = c
kept_all (k ∷ ks) c = kept_all ks (kept_after k c)

-- accepted arguments are those that no check refuses
accepts_good : (clock : ℕ) (d i p : List ℕ) → Good clock d i p → accepts clock d i p ≡ true
unfolding accepts
accepts_good clock d i p g = rw (g.reading, g.name, g.id_form, g.policy, le-leb (length p) 1024 g.short)

accepts_not : (clock : ℕ) (d i p : List ℕ) (r : ℕ) → refusal_of (argument_checks clock d i p) ≡ some r → accepts clock d i p ≡ false
unfolding refusal_of argument_checks accepts
accepts_not clock d i p r = go (is_reading clock) (is_name d) (is_id i) (is_policy p) (leb (length p) 1024)
  where
    go : (a b c e g : Bool) → cond a (cond b (cond c (cond e (cond g none (some 71)) (some (policy_answer p).number)) (some 80)) (some 60)) (some 62) ≡ some r → (a && b && c && e && g) ≡ false
    go false b c e g h = refl
    go true false c e g h = refl
    go true true false e g h = refl
    go true true true false g h = refl
    go true true true true false h = refl
    go true true true true true h = never cc

-- what a table holds after a call, and after a run
module _ (m : Memory) (sound : Sound m) (clock : ℕ) (d i p : List ℕ) where
  abbrev c : List (Option Held)
  c = contents m.table m.texts

  sized : length c ≡ length m.table
  sized = held_length m.texts 0 m.table

  store_keeps : contents (after (store clock d i p) m).table (after (store clock d i p) m).texts ≡ kept_after (store clock d i p) c
  unfolding kept_after
  store_keeps = go (refusal_of (argument_checks clock d i p)) refl
    where
      place : (b : Bool) → ltb (store_place clock d c) (length m.table) ≡ b → Good clock d i p → refusal_of (argument_checks clock d i p) ≡ none
          → contents (after (store clock d i p) m).table (after (store clock d i p) m).texts ≡ cond (accepts clock d i p && ltb (store_place clock d c) (length c)) (set c (store_place clock d c) (some (given clock d i p))) c
      place true b good h =
          rw (accepts_good clock d i p good, sized, b)
          (holds m sound.sized clock d i p good (ltb-true (store_place clock d c) (length m.table) b) (by_place m sound.sized clock d i p h ∙ ap (λ (t : Bool). cond t none (some 70)) b))
      place false b good h =
          rw (accepts_good clock d i p good, sized, b, refused_kept m sound.sized clock d i p 70 (by_place m sound.sized clock d i p h ∙ ap (λ (t : Bool). cond t none (some 70)) b))

      go : (o : Option ℕ) → refusal_of (argument_checks clock d i p) ≡ o
          → contents (after (store clock d i p) m).table (after (store clock d i p) m).texts ≡ cond (accepts clock d i p && ltb (store_place clock d c) (length c)) (set c (store_place clock d c) (some (given clock d i p))) c
      go (some r) h = rw (accepts_not clock d i p r h, refused_kept m sound.sized clock d i p r (refused_args m sound.sized clock d i p r h))
      go none h = place (ltb (store_place clock d c) (length m.table)) refl (good_args clock d i p h) h

lookup_keeps : (m : Memory) (clock : ℕ) (d : List ℕ) → contents (after (lookup clock d) m).table (after (lookup clock d) m).texts ≡ kept_after (lookup clock d) (contents m.table m.texts)
unfolding after kept_after
lookup_keeps m clock d = refl

keeps : (m : Memory) → Sound m → (k : Call) → contents (after k m).table (after k m).texts ≡ kept_after k (contents m.table m.texts)
keeps m s (store clock d i p) = store_keeps m s clock d i p
keeps m s (lookup clock d) = lookup_keeps m clock d

pub run_keeps : (ks : List Call) (m : Memory) → Sound m → contents (reached ks m).table (reached ks m).texts ≡ kept_all ks (contents m.table m.texts)
unfolding reached kept_all
run_keeps [] m s = refl
run_keeps (k ∷ ks) m s = run_keeps ks (after k m) (sound_after m s k) ∙ ap (kept_all ks) (keeps m s k)

-- ---- a table of zeros is an empty one, and holds nothing
zeros_held : (text : List ℕ) → held_in no_entry text ≡ none
unfolding held_in is_accepted fields_fit no_entry
zeros_held text = rw (trim_whole is_zero (zeros 253) (all_zeros 253), nothing_no_name)

zeros_from : (x : List ℕ) (i n : ℕ) → held_from x i (replicate n no_entry) ≡ replicate n none
unfolding held_from
zeros_from x i zero = refl
zeros_from x i (suc n) = rw (zeros_held (text_at x i no_entry), zeros_from x (i + 1) n)

abbrev pub empty : Memory
empty = record { table = replicate 64 no_entry; texts = zeros 65536 }

empty_sized : (t : List CacheEntry) (x : List ℕ) → length t ≡ 64 → length x ≡ 65536 → contents t x ≡ replicate 64 none → is_empty_table (record { table = t; texts = x }) ≡ true
unfolding is_empty_table sizes_fit all is_empty
empty_sized t x n m e = rw (n, m, e)

pub zeros_empty : is_empty_table empty ≡ true
zeros_empty = empty_sized (replicate 64 no_entry) (zeros 65536) (length-replicate 64 no_entry) (length-replicate {A = ℕ} 65536 0) (zeros_from (zeros 65536) 0 64)

-- ---- the run
-- domains of two letters, `aa` to `hh`
abbrev pub domain : ℕ → List ℕ
domain j = (97 + j / 8) ∷ (97 + j % 8) ∷ []

abbrev pub short : List ℕ
short = text "version: STSv1\nmode: none\nmax_age: 100\n"

abbrev pub long : List ℕ
long = text "version: STSv1\nmode: none\nmax_age: 200\n"

abbrev pub id : List ℕ
id = text "1"

-- stores for the domains from j on, n of them
unfoldable pub fill : ℕ → ℕ → List Call
fill zero j = []
fill (suc n) j = store 1000 (domain j) id (cond (eqb j 0) short long) ∷ fill n (j + 1)

-- another domain
abbrev pub another : List ℕ
another = text "zz"

-- the table that the 64 stores reach
abbrev pub full : Memory
full = reached (fill 64 0) empty

pub fill_rises : rises 0 (fill 64 0) ≡ true
unfolding rises fill clock_of
fill_rises = refl

full_sound : Sound full
full_sound = sound_reached (fill 64 0) empty (sound_empty empty zeros_empty)

abbrev kept : List (Option Held)
kept = kept_all (fill 64 0) (replicate 64 none)

full_keeps : contents full.table full.texts ≡ kept
full_keeps = run_keeps (fill 64 0) empty (sound_empty empty zeros_empty) ∙ ap (kept_all (fill 64 0)) (zeros_from (zeros 65536) 0 64)

-- accepted arguments
another_fits : (refusal_of (argument_checks 1099 another id long) ≡ none) × (refusal_of (argument_checks 1100 another id long) ≡ none)
unfolding kept_all kept_after accepts fill store_place else_place first_place is_own is_empty is_stale is_live_at is_policy is_id all any lower_of agree same_byte same_letter span_of index_of split to_first label_byte is_label is_name is_starred is_wildcard is_pattern capped_age is_reading time_left is_live blank trimmed_length letter_or_digit name_byte is_field_name has_name utf8_tail utf8_two utf8_three utf8_four printable is_text is_value lines line_start name_of value_of is_line is_named first_named patterns is_version mode_of is_digit decimal_after age_of is_there is_first cause_after fault_at or_later first_fault body_fault mode_in age_in has_patterns complete completed judged read_body mode_number policy_to policy_answer refusal_of argument_checks
another_fits = (refl, refl)

places : (ltb (store_place 1099 another kept) 64 ≡ false) × (store_place 1100 another kept ≡ 0)
unfolding kept_all kept_after accepts fill store_place else_place first_place is_own is_empty is_stale is_live_at is_policy is_id all any lower_of agree same_byte same_letter span_of index_of split to_first label_byte is_label is_name is_starred is_wildcard is_pattern capped_age is_reading time_left is_live blank trimmed_length letter_or_digit name_byte is_field_name has_name utf8_tail utf8_two utf8_three utf8_four printable is_text is_value lines line_start name_of value_of is_line is_named first_named patterns is_version mode_of is_digit decimal_after age_of is_there is_first cause_after fault_at or_later first_fault body_fault mode_in age_in has_patterns complete completed judged read_body mode_number policy_to policy_answer
places = (refl, refl)

refusal_is : (clock : ℕ) → refusal_of (argument_checks clock another id long) ≡ none → store_refusal clock another id long full.table full.texts ≡ cond (ltb (store_place clock another kept) 64) none (some 70)
refusal_is clock h =
    by_place full full_sound.sized clock another id long h
    ∙ (ap (λ (n : ℕ). cond (ltb (store_place clock another (contents full.table full.texts)) n) none (some 70)) full_sound.sized.table_size
    ∙ ap (λ (l : List (Option Held)). cond (ltb (store_place clock another l) 64) none (some 70)) full_keeps)

-- one second before the first entry is stale the table is full of live ones
pub refused_before : store_answer 1099 another id long full.table full.texts ≡ refusal 70
unfolding store_answer answer_unless
refused_before = rw (refusal_is 1099 another_fits.0, places.0)

-- at its last second it is taken
pub taken_then : store_answer 1100 another id long full.table full.texts ≡ success 0
unfolding store_answer answer_unless
taken_then = rw (refusal_is 1100 another_fits.1, places.1)

abbrev pub call : Call
call = store 1100 another id long

after_keeps : contents (after call full).table (after call full).texts ≡ kept_after call kept
after_keeps = keeps full full_sound call ∙ ap (kept_after call) full_keeps

looks : (clock : ℕ) (d : List ℕ) (m : Memory) → Sound m → (c : List (Option Held)) → contents m.table m.texts ≡ c → answer_to (lookup clock d) m ≡ shown (refusal_of (clock_and_name clock d)) (live_for clock d c)
looks clock d m s c e = lookup_shows m s.sized clock d ∙ ap (λ (l : List (Option Held)). shown (refusal_of (clock_and_name clock d)) (live_for clock d l)) e

-- the first domain found its policy until then, and finds nothing from then on; the other finds its own
pub first_before : answer_to (lookup 1099 (domain 0)) full ≡ found 15 0 short 39 1000 1 (filled 32 id)
unfolding kept_all kept_after accepts fill store_place else_place first_place is_own is_empty is_stale is_live_at is_policy is_id all any lower_of agree same_byte same_letter span_of index_of split to_first label_byte is_label is_name is_starred is_wildcard is_pattern capped_age is_reading time_left is_live blank trimmed_length letter_or_digit name_byte is_field_name has_name utf8_tail utf8_two utf8_three utf8_four printable is_text is_value lines line_start name_of value_of is_line is_named first_named patterns is_version mode_of is_digit decimal_after age_of is_there is_first cause_after fault_at or_later first_fault body_fault mode_in age_in has_patterns complete completed judged read_body mode_number policy_to policy_answer refusal_of live_for if_live
first_before = looks 1099 (domain 0) full full_sound kept full_keeps

pub first_after : answer_to (lookup 1100 (domain 0)) (after call full) ≡ found 72 0 [] 0 0 0 (zeros 32)
unfolding kept_all kept_after accepts fill store_place else_place first_place is_own is_empty is_stale is_live_at is_policy is_id all any lower_of agree same_byte same_letter span_of index_of split to_first label_byte is_label is_name is_starred is_wildcard is_pattern capped_age is_reading time_left is_live blank trimmed_length letter_or_digit name_byte is_field_name has_name utf8_tail utf8_two utf8_three utf8_four printable is_text is_value lines line_start name_of value_of is_line is_named first_named patterns is_version mode_of is_digit decimal_after age_of is_there is_first cause_after fault_at or_later first_fault body_fault mode_in age_in has_patterns complete completed judged read_body mode_number policy_to policy_answer refusal_of live_for if_live
first_after = looks 1100 (domain 0) (after call full) (sound_after full full_sound call) (kept_after call kept) after_keeps

pub another_after : answer_to (lookup 1100 another) (after call full) ≡ found 15 0 long 39 1100 1 (filled 32 id)
unfolding kept_all kept_after accepts fill store_place else_place first_place is_own is_empty is_stale is_live_at is_policy is_id all any lower_of agree same_byte same_letter span_of index_of split to_first label_byte is_label is_name is_starred is_wildcard is_pattern capped_age is_reading time_left is_live blank trimmed_length letter_or_digit name_byte is_field_name has_name utf8_tail utf8_two utf8_three utf8_four printable is_text is_value lines line_start name_of value_of is_line is_named first_named patterns is_version mode_of is_digit decimal_after age_of is_there is_first cause_after fault_at or_later first_fault body_fault mode_in age_in has_patterns complete completed judged read_body mode_number policy_to policy_answer refusal_of live_for if_live
another_after = looks 1100 another (after call full) (sound_after full full_sound call) (kept_after call kept) after_keeps
