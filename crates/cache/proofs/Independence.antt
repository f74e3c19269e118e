-- Document 02, No. 1, its last sentence: "For tables reached by these calls from an empty one, and while the calls' clocks never go back, storing for one domain changes no other
-- domain's lookup; two such runs with the same calls for a domain in the same order, none of them refused with 70, give it the same answers but for a text's place." Assumes nothing.
use Prim.Native.Nat.{ℕ, ◌<◌, ◌≤◌}
use mathlib.Core.Path.{◌≡◌, refl, sym, ap, ◌∙◌}
use mathlib.Core.Bool.{Bool, true, false, cond, not}
use mathlib.Core.List.{List, [], ◌∷◌}
use mathlib.Core.Option.{Option, none, some}
use native.Mathlib.Omega.{arith}
use lib.Dec.{eqb, leb, ltb}
use lib.ListN.{length}
use borrow.Author.Tests.{leb-true, ltb-true, not-true}
use Rattle.lists.specs.Bytes.{all}
use Rattle.lists.specs.Equal.{same_text}
use Rattle.lists.specs.Check.{refusal_of}
use Rattle.lists.proofs.Bools.{apart, and_left, and_right}
use Rattle.writing.specs.Answer.{answer_unless, unless_refused}
use Rattle.cache.specs.Held.{Held, contents}
use Rattle.cache.specs.Store.{argument_checks, store_refusal, store_answer, store_place, clock_and_name}
use Rattle.cache.specs.Lookup.{if_live, lookup_answer}
use Rattle.cache.specs.Runs.{Memory, is_empty_table, Call, store, lookup, clock_of, domain_of, Answer, wrote, found, lookup_in, text_in, placeless, answer_to, after, reached, rises, is_for, calls_for, answers_for, number_in, none_full}
use Rattle.cache.proofs.Stored.{given, Good}
use Rattle.cache.proofs.Steps.{Sound, live_in, sound_empty, sound_after, sound_reached, nothing_in_empty, good_args, refused_kept, refused_args, by_place, stored_found, other_after, place_after, past_sizes_too, shown, lookup_shows, live_like}

-- ---- storing for one domain changes no other domain's lookup
-- the text of an answer
abbrev text_of : Answer → List ℕ
text_of (wrote a) = []
text_of (found number length text text_length fetched id_length id) = text

module _ (m : Memory) (s : Sound m) (clock : ℕ) (d i p : List ℕ) (later : ℕ) (e : List ℕ) (other : same_text d e ≡ false) (w : clock ≤ later) where
  abbrev put : Memory
  put = after (store clock d i p) m

  sound_put : Sound put
  sound_put = sound_after m s (store clock d i p)

  same_lookup : lookup_in later e put ≡ lookup_in later e m
  unfolding lookup_answer
  same_lookup = rw (past_sizes_too put sound_put.sized later e, past_sizes_too m s.sized later e, place_after m s clock d i p e other later w)

  same_shown : answer_to (lookup later e) put ≡ answer_to (lookup later e) m
  unfolding domain_of clock_of
  same_shown = lookup_shows put sound_put.sized later e ∙ (ap (shown (refusal_of (clock_and_name later e))) (other_after m s (store clock d i p) e other later w) ∙ sym (lookup_shows m s.sized later e))

  same_text_lem : text_in later e put ≡ text_in later e m
  unfolding answer_to placeless
  same_text_lem = ap text_of same_shown

-- a domain's lookup answers the same in two memories, and the text that it hands back is the same
abbrev pub SameLookup : ℕ → List ℕ → Memory → Memory → Type 0
SameLookup later e m n = (lookup_in later e m ≡ lookup_in later e n) × (text_in later e m ≡ text_in later e n)

-- Whatever calls the table was reached by from an empty one, and whatever their clocks: at the store's clock and at every later one the other domain's lookup answers the same, text's place
-- and all, and the text that it hands back is the same.
pub storing_changes_no_other : (m : Memory) → is_empty_table m ≡ true → (ks : List Call) (clock : ℕ) (d i p : List ℕ) (later : ℕ) (e : List ℕ) → same_text d e ≡ false → clock ≤ later
    → SameLookup later e (after (store clock d i p) (reached ks m)) (reached ks m)
storing_changes_no_other m empty ks clock d i p later e other w =
    let s : Sound (reached ks m) = sound_reached ks m (sound_empty m empty) in
    (same_lookup (reached ks m) s clock d i p later e other w, same_text_lem (reached ks m) s clock d i p later e other w)

-- a call for another domain
other_kept : (m : Memory) → Sound m → (k : Call) (later : ℕ) (e : List ℕ) → is_for e k ≡ false → clock_of k ≤ later → SameLookup later e (after k m) m
unfolding is_for domain_of clock_of after
other_kept m s (store clock d i p) later e other w = (same_lookup m s clock d i p later e other w, same_text_lem m s clock d i p later e other w)
other_kept m s (lookup clock d) later e other w = (refl, refl)

-- any calls for other domains, none of them later than the lookup
others_kept : (m : Memory) → Sound m → (js : List Call) (later : ℕ) (e : List ℕ) → all (λ (k : Call). not (is_for e k)) js ≡ true → all (λ (k : Call). leb (clock_of k) later) js ≡ true
    → SameLookup later e (reached js m) m
unfolding reached all
others_kept m s [] later e o w = (refl, refl)
others_kept m s (k ∷ js) later e o w =
    let other : is_for e k ≡ false = not-true (is_for e k) (and_left (not (is_for e k)) (all (λ (j : Call). not (is_for e j)) js) o) in
    let past : clock_of k ≤ later = leb-true (clock_of k) later (and_left (leb (clock_of k) later) (all (λ (j : Call). leb (clock_of j) later) js) w) in
    let first : SameLookup later e (after k m) m = other_kept m s k later e other past in
    let rest : SameLookup later e (reached js (after k m)) (after k m) =
    others_kept (after k m) (sound_after m s k) js later e
    (and_right (not (is_for e k)) (all (λ (j : Call). not (is_for e j)) js) o)
    (and_right (leb (clock_of k) later) (all (λ (j : Call). leb (clock_of j) later) js) w) in
    (rest.0 ∙ first.0, rest.1 ∙ first.1)

-- And so for any number of further calls for other domains.
pub others_change_nothing : (m : Memory) → is_empty_table m ≡ true → (ks js : List Call) (later : ℕ) (e : List ℕ) → all (λ (k : Call). not (is_for e k)) js ≡ true → all (λ (k : Call). leb (clock_of k) later) js ≡ true
    → SameLookup later e (reached js (reached ks m)) (reached ks m)
others_change_nothing m empty ks js later e o w = others_kept (reached ks m) (sound_reached ks m (sound_empty m empty)) js later e o w

-- ---- a cache for one domain alone: it keeps the last policy that was stored, or none
unfoldable alone : Option Held → List Call → List Answer
alone s [] = []
alone s (store clock d i p ∷ ks) =
    wrote (answer_unless (refusal_of (argument_checks clock d i p)) 0)
    ∷ alone (unless_refused (refusal_of (argument_checks clock d i p)) s (some (given clock d i p))) ks
alone s (lookup clock d ∷ ks) = shown (refusal_of (clock_and_name clock d)) (if_live clock s) ∷ alone s ks

-- from a clock on, the domain finds in the table what that cache keeps
abbrev Follows : List ℕ → Memory → ℕ → Option Held → Type 0
Follows d m from s = (later : ℕ) → from ≤ later → live_in later d m ≡ if_live later s

-- and then it answers as that cache does
abbrev Alike : List ℕ → List Call → Type 0
Alike d ks = (m : Memory) (from : ℕ) (s : Option Held) → Sound m → rises from ks ≡ true → Follows d m from s → none_full (answers_for d ks m) ≡ true → answers_for d ks m ≡ alone s (calls_for d ks)

module _ (d : List ℕ) (ks : List Call) (ih : Alike d ks) (m : Memory) (from : ℕ) (s : Option Held) (sound : Sound m) (follows : Follows d m from s) where
  -- a call for another domain
  other_call : (k : Call) → is_for d k ≡ false → from ≤ clock_of k → rises (clock_of k) ks ≡ true → none_full (answers_for d ks (after k m)) ≡ true → answers_for d ks (after k m) ≡ alone s (calls_for d ks)
  unfolding is_for
  other_call k other w r n =
      ih (after k m) (clock_of k) s (sound_after m sound k) r
      (λ later l. other_after m sound k d other later l ∙ follows later (omega (arith, w, l)))
      n

  -- a lookup for the domain
  own_lookup : (clock : ℕ) (e : List ℕ) → same_text e d ≡ true → from ≤ clock → rises clock ks ≡ true → none_full (answers_for d ks m) ≡ true
      → answer_to (lookup clock e) m ∷ answers_for d ks m ≡ alone s (lookup clock e ∷ calls_for d ks)
  unfolding alone
  own_lookup clock e same w r n =
      rw (lookup_shows m sound.sized clock e, live_like clock e d same m, follows clock w, ih m clock s sound r (λ later l. follows later (omega (arith, w, l))) n)

  -- a store for the domain
  module _ (clock : ℕ) (e i p : List ℕ) (same : same_text e d ≡ true) (w : from ≤ clock) (r : rises clock ks ≡ true) where
    abbrev call : Call
    call = store clock e i p

    abbrev checks_of : Option ℕ
    checks_of = refusal_of (argument_checks clock e i p)

    abbrev Answers : Option ℕ → Type 0
    Answers o = none_full (answers_for d ks (after call m)) ≡ true → answer_to call m ∷ answers_for d ks (after call m) ≡ wrote (answer_unless o 0) ∷ alone (unless_refused o s (some (given clock e i p))) (calls_for d ks)

    own_refused : (n : ℕ) → checks_of ≡ some n → Answers (some n)
    unfolding answer_to store_answer unless_refused
    own_refused n h f =
        let q : store_refusal clock e i p m.table m.texts ≡ some n = refused_args m sound.sized clock e i p n h in
        let a : after call m ≡ m = refused_kept m sound.sized clock e i p n q in
        rw (q, a, ih m clock s sound r (λ later l. follows later (omega (arith, w, l))) (rw a at f))

    -- accepted, it has a place, or is refused with 70
    own_stored : checks_of ≡ none → (b : Bool) → ltb (store_place clock e (contents m.table m.texts)) (length m.table) ≡ b → not (eqb (number_in (answer_to call m)) 70) ≡ true → Answers none
    unfolding answer_to store_answer unless_refused answer_unless number_in
    own_stored h true b n f =
        let q : store_refusal clock e i p m.table m.texts ≡ none = by_place m sound.sized clock e i p h ∙ ap (λ (t : Bool). cond t none (some 70)) b in
        let there : store_place clock e (contents m.table m.texts) < length m.table = ltb-true (store_place clock e (contents m.table m.texts)) (length m.table) b in
        let good : Good clock e i p = good_args clock e i p h in
        rw (q, ih (after call m) clock (some (given clock e i p)) (sound_after m sound call) r (λ later l. stored_found m sound.sized clock e i p good there q d same later) f)
    own_stored h false b n f =
        let q : store_refusal clock e i p m.table m.texts ≡ some 70 = by_place m sound.sized clock e i p h ∙ ap (λ (t : Bool). cond t none (some 70)) b in
        apart (rw q at n)

    own_store : none_full (answer_to call m ∷ answers_for d ks (after call m)) ≡ true → answer_to call m ∷ answers_for d ks (after call m) ≡ alone s (call ∷ calls_for d ks)
    unfolding none_full all alone
    own_store n = go checks_of refl
      where
        head : not (eqb (number_in (answer_to call m)) 70) ≡ true
        head = and_left (not (eqb (number_in (answer_to call m)) 70)) (none_full (answers_for d ks (after call m))) n

        tail : none_full (answers_for d ks (after call m)) ≡ true
        tail = and_right (not (eqb (number_in (answer_to call m)) 70)) (none_full (answers_for d ks (after call m))) n

        go : (o : Option ℕ) → checks_of ≡ o → answer_to call m ∷ answers_for d ks (after call m) ≡ wrote (answer_unless o 0) ∷ alone (unless_refused o s (some (given clock e i p))) (calls_for d ks)
        go (some c) h = own_refused c h tail
        go none h = own_stored h (ltb (store_place clock e (contents m.table m.texts)) (length m.table)) refl head tail

-- a call for the domain
own_call : (d : List ℕ) (ks : List Call) → Alike d ks → (m : Memory) (from : ℕ) (s : Option Held) → Sound m → Follows d m from s → (k : Call) → is_for d k ≡ true → from ≤ clock_of k → rises (clock_of k) ks ≡ true
    → none_full (answer_to k m ∷ answers_for d ks (after k m)) ≡ true → answer_to k m ∷ answers_for d ks (after k m) ≡ alone s (k ∷ calls_for d ks)
unfolding is_for domain_of clock_of after none_full all
own_call d ks ih m from s sound follows (store clock e i p) same w r n = own_store d ks ih m from s sound follows clock e i p same w r n
own_call d ks ih m from s sound follows (lookup clock e) same w r n =
    own_lookup d ks ih m from s sound follows clock e same w r (and_right (not (eqb (number_in (answer_to (lookup clock e) m)) 70)) (none_full (answers_for d ks m)) n)

-- each call in turn
one_more : (d : List ℕ) (k : Call) (ks : List Call) → Alike d ks → Alike d (k ∷ ks)
unfolding rises answers_for calls_for
one_more d k ks ih m from s sound r follows n = go (is_for d k) refl n
  where
    w : from ≤ clock_of k
    w = leb-true from (clock_of k) (and_left (leb from (clock_of k)) (rises (clock_of k) ks) r)

    rest : rises (clock_of k) ks ≡ true
    rest = and_right (leb from (clock_of k)) (rises (clock_of k) ks) r

    go : (b : Bool) → is_for d k ≡ b → none_full (cond b (answer_to k m ∷ answers_for d ks (after k m)) (answers_for d ks (after k m))) ≡ true
        → cond b (answer_to k m ∷ answers_for d ks (after k m)) (answers_for d ks (after k m)) ≡ alone s (cond b (k ∷ calls_for d ks) (calls_for d ks))
    go false e f = other_call d ks ih m from s sound follows k e w rest f
    go true e f = own_call d ks ih m from s sound follows k e w rest f

run_alike : (d : List ℕ) (ks : List Call) → Alike d ks
unfolding answers_for calls_for alone
run_alike d [] m from s sound r follows n = refl
run_alike d (k ∷ ks) m from s sound r follows n = one_more d k ks (run_alike d ks) m from s sound r follows n

-- ---- the same calls for a domain give it the same answers
pub same_calls_same_answers : (d : List ℕ) (m n : Memory) (js ks : List Call) → is_empty_table m ≡ true → is_empty_table n ≡ true → rises 0 js ≡ true → rises 0 ks ≡ true
    → calls_for d js ≡ calls_for d ks → none_full (answers_for d js m) ≡ true → none_full (answers_for d ks n) ≡ true → answers_for d js m ≡ answers_for d ks n
unfolding if_live
same_calls_same_answers d m n js ks em en rj rk same fm fn =
    from_empty m js em rj fm ∙ (ap (alone none) same ∙ sym (from_empty n ks en rk fn))
  where
    from_empty : (l : Memory) (cs : List Call) → is_empty_table l ≡ true → rises 0 cs ≡ true → none_full (answers_for d cs l) ≡ true → answers_for d cs l ≡ alone none (calls_for d cs)
    from_empty l cs e r f = run_alike d cs l 0 none (sound_empty l e) r (λ later h. nothing_in_empty l e later d) f
