-- What the code's searches of a table find is the paper's, and so are their refusals. Assumes nothing.
use Prim.Native.Nat.{ℕ, suc, ◌+◌, ◌-◌, ◌*◌, ◌^◌, min, ◌<◌, ◌≤◌}
use mathlib.Core.Path.{◌≡◌, refl, sym, ap, ◌∙◌}
use mathlib.Core.Bool.{Bool, true, false, cond, not, ◌&&◌, and-true, and-false}
use mathlib.Core.List.{List, [], ◌∷◌}
use mathlib.Core.Option.{Option, none, some}
use native.Mathlib.Omega.{arith}
use lib.Dec.{ltb}
use lib.ListN.{length, get_or, take, drop, drop_of_length-le}
use borrow.Author.Tests.{lt-ltb, ltb-true, ltb-false}
use Rattle.std.specs.Prelude as P
use Rattle.std.specs.Option.{option_or}
use lib.Seq.{drop-cons}
use native.Mathlib.Numerals.{add-one}
use Rattle.lists.specs.Equal.{same_text}
use Rattle.lists.specs.Place.{first_place}
use Rattle.lists.proofs.Bools.{never}
use Rattle.lists.proofs.Laws.{ltb_suc}
use Rattle.writing.specs.Over.{over}
use Rattle.writing.proofs.Over.{over_nothing, over_short}
use Rattle.cache.specs.declared.CacheEntry.{CacheEntry}
use Rattle.cache.specs.declared.Own.{Own}
use Rattle.cache.specs.declared.State.{State}
use Rattle.cache.specs.declared.State.TheVariants as S
use Rattle.cache.specs.Held.{Held, text_place, unfilled, text_at, is_accepted, written, held_in, held_from, contents}
use Rattle.cache.specs.Store.{is_live_at, is_own, is_empty, is_stale, own_place, else_place}
use Rattle.cache.specs.Scan.{state_of}
use Rattle.cache.specs.Search.{liveness, place_in, own_entry, other_place}
use Rattle.cache.proofs.Stored.{held_length}

-- what an entry holds, where it is accepted and where it is not
pub held_yes : (e : CacheEntry) (text : List ℕ) → is_accepted e text ≡ true → held_in e text ≡ some (written e text)
unfolding held_in
held_yes e text h = rw h

pub held_no : (e : CacheEntry) (text : List ℕ) → is_accepted e text ≡ false → held_in e text ≡ none
unfolding held_in
held_no e text h = rw h

-- so what it holds is what is written there
pub held_is_written : (e : CacheEntry) (text : List ℕ) (h : Held) → held_in e text ≡ some h → h ≡ written e text
held_is_written e text h q = go (is_accepted e text) refl
  where
    go : (b : Bool) → is_accepted e text ≡ b → h ≡ written e text
    go true a = let f : some h ≡ some (written e text) = sym q ∙ held_yes e text a in cc
    go false a = never (let f : some h ≡ none = sym q ∙ held_no e text a in cc)

-- outside the buffer nothing is written
pub outside_kept : (i : ℕ) (p x : List ℕ) → length x ≤ text_place i → x ≡ over (text_place i) p x
unfolding over
outside_kept i [] x h = sym (over_nothing (text_place i) x)
outside_kept i (b ∷ p) x h = over_short (text_place i) (b ∷ p) x (omega arith)

-- the text of an entry; a place beyond any buffer is one where no text stands
pub text_is : (x r : List ℕ) (i : ℕ) (e : CacheEntry) (k : ℕ) → k ≡ min (1024 * i) (2 ^ 64 - 1) → r ≡ take e.length (drop k x) → length x < 2 ^ 63 → r ≡ text_at x i e
unfolding text_at text_place
text_is x r i e k n g l = go (ltb (1024 * i) (2 ^ 64)) refl
  where
    go : (b : Bool) → ltb (1024 * i) (2 ^ 64) ≡ b → r ≡ take e.length (drop (1024 * i) x)
    go true t = let m : k ≡ 1024 * i = omega (arith, n, ltb-true (1024 * i) (2 ^ 64) t) in rw m at g
    go false t = let a : length x ≤ k = omega (arith, n, l, ltb-false (1024 * i) (2 ^ 64) t) in let b : length x ≤ 1024 * i = omega (arith, l, ltb-false (1024 * i) (2 ^ 64) t) in g ∙ rw (drop_of_length-le x a, drop_of_length-le x b)

-- ---- the search for the domain's own entry, from position i on
abbrev pub own_at : ℕ → ℕ → Option Held → P.Option Own
own_at clock i o = P.Some (record { place = i; live = not (is_stale clock o) })

pub own_from : ℕ → (d x : List ℕ) → ℕ → List CacheEntry → P.Option Own
own_from clock d x i [] = P.None
own_from clock d x i (e ∷ t) = cond (is_own d (held_in e (text_at x i e))) (own_at clock i (held_in e (text_at x i e))) (own_from clock d x (i + 1) t)

module _ (clock : ℕ) (d x : List ℕ) where
  own_from_is : (i : ℕ) (t : List CacheEntry)
      → own_from clock d x i t ≡ cond (ltb (own_place d (held_from x i t)) (length t)) (own_at clock (i + own_place d (held_from x i t)) (get_or (held_from x i t) (own_place d (held_from x i t)) none)) P.None
  unfolding held_from first_place own_from
  own_from_is i [] = refl
  own_from_is i (e ∷ t) = go (is_own d o) (own_from_is (i + 1) t)
    where
      o : Option Held
      o = held_in e (text_at x i e)

      c : List (Option Held)
      c = held_from x (i + 1) t

      k : ℕ
      k = own_place d c

      go : (b : Bool) → own_from clock d x (i + 1) t ≡ cond (ltb k (length t)) (own_at clock (i + 1 + k) (get_or c k none)) P.None
          → cond b (own_at clock i o) (own_from clock d x (i + 1) t)
          ≡ cond (ltb (cond b 0 (suc k)) (suc (length t))) (own_at clock (i + cond b 0 (suc k)) (get_or (o ∷ c) (cond b 0 (suc k)) none)) P.None
      go true ih = let z : i + 0 ≡ i = omega arith in rw (lt-ltb 0 (suc (length t)) (omega arith), z)
      go false ih = let z : i + 1 + k ≡ i + suc k = omega arith in rw (ltb_suc k (length t)) (ih ∙ rw z)

  pub own_entry_is : (t : List CacheEntry) → own_from clock d x 0 t ≡ own_entry clock d (contents t x)
  unfolding own_entry
  own_entry_is t = let z : 0 + own_place d (contents t x) ≡ own_place d (contents t x) = omega arith in rw (held_length x 0 t) (own_from_is 0 t ∙ rw z)

not_not : (b : Bool) → not (not b) ≡ b
not_not true = refl
not_not false = refl

-- ---- its loop, at an entry of which the code says whether it has this domain and what it is
pub entry_next : {X : Type 0} (l : List X) (i : ℕ) (z : X) → i < length l → drop i l ≡ get_or l i z ∷ drop (i + 1) l
entry_next l i z h = rw (add-one, drop-cons l i z)

-- an entry is the own one where its domain is the same and it is accepted
pub own_is : (d : List ℕ) (e : CacheEntry) (text : List ℕ) (b : Bool) → is_accepted e text ≡ b → is_own d (held_in e text) ≡ (same_text (unfilled e.domain) d && b)
unfolding is_own
own_is d e text true h = rw (held_yes e text h) (sym (and-true (same_text (unfilled e.domain) d)))
own_is d e text false h = rw (held_no e text h) (sym (and-false (same_text (unfilled e.domain) d)))

module _ (clock : ℕ) (d x : List ℕ) (t : List CacheEntry) (i : ℕ) (z : CacheEntry) (l : i < length t) (inv : own_from clock d x 0 t ≡ own_from clock d x i (drop i t)) where
  abbrev entry : CacheEntry
  entry = get_or t i z

  abbrev text : List ℕ
  text = text_at x i entry

  turn : own_from clock d x 0 t ≡ cond (is_own d (held_in entry text)) (own_at clock i (held_in entry text)) (own_from clock d x (i + 1) (drop (i + 1) t))
  unfolding own_from
  turn = inv ∙ ap (own_from clock d x i) (entry_next t i z l)

  module _ (h : Bool) (g : h ≡ same_text (unfilled entry.domain) d) where
    pub own_elsewhere : h ≡ false → own_from clock d x 0 t ≡ own_from clock d x (i + 1) (drop (i + 1) t)
    own_elsewhere f = turn ∙ rw (own_is d entry text (is_accepted entry text) refl, sym g, f)

    module _ (y : h ≡ true) (s : State) (q : s ≡ state_of clock (held_in entry text)) where
      -- an entry that is accepted is the own one, and its state says whether it is live
      own_state : (a : Bool) → is_accepted entry text ≡ a → (o : P.Option Bool) → o ≡ liveness s → o ≡ cond a (P.Some (is_live_at clock (written entry text))) P.None
      unfolding state_of liveness
      own_state a e o g = g ∙ (ap liveness q ∙ go a e)
        where
          by : (b : Bool) → liveness (cond b S.Live S.Stale) ≡ P.Some b
          by true = refl
          by false = refl

          go : (a : Bool) → is_accepted entry text ≡ a → liveness (state_of clock (held_in entry text)) ≡ cond a (P.Some (is_live_at clock (written entry text))) P.None
          go true e = rw (held_yes entry text e) (by (is_live_at clock (written entry text)))
          go false e = rw (held_no entry text e)

      pub own_found : (b : Bool) → ◌≡◌ {A = P.Option Bool} (P.Some b) (liveness s) → ◌≡◌ {A = P.Option Own} (P.Some (record { place = i; live = b })) (own_entry clock d (contents t x))
      unfolding is_stale
      own_found b f = go (is_accepted entry text) refl
        where
          go : (a : Bool) → is_accepted entry text ≡ a → ◌≡◌ {A = P.Option Own} (P.Some (record { place = i; live = b })) (own_entry clock d (contents t x))
          go false e = never (let k : P.Some b ≡ P.None = own_state false e (P.Some b) f in cc)
          go true e =
              let k : P.Some b ≡ P.Some (is_live_at clock (written entry text)) = own_state true e (P.Some b) f in
              let v : is_live_at clock (written entry text) ≡ b = cc in
              sym (sym (own_entry_is clock d x t) ∙ (turn ∙ rw (own_is d entry text true e, sym g, y, held_yes entry text e, v, not_not b)))

      pub own_unheld : ◌≡◌ {A = P.Option Bool} P.None (liveness s) → own_from clock d x 0 t ≡ own_from clock d x (i + 1) (drop (i + 1) t)
      unfolding is_own
      own_unheld f = turn ∙ go (is_accepted entry text) refl
        where
          go : (a : Bool) → is_accepted entry text ≡ a → cond (is_own d (held_in entry text)) (own_at clock i (held_in entry text)) (own_from clock d x (i + 1) (drop (i + 1) t)) ≡ own_from clock d x (i + 1) (drop (i + 1) t)
          go true e = never (let k : P.None ≡ P.Some (is_live_at clock (written entry text)) = own_state true e P.None f in cc)
          go false e = rw (held_no entry text e)

pub own_nowhere : (clock : ℕ) (d x : List ℕ) (t : List CacheEntry) (i : ℕ) → length t ≤ i → own_from clock d x 0 t ≡ own_from clock d x i (drop i t) → ◌≡◌ {A = P.Option Own} P.None (own_entry clock d (contents t x))
unfolding own_from
own_nowhere clock d x t i l inv = sym (sym (own_entry_is clock d x t) ∙ (inv ∙ ap (own_from clock d x i) (drop_of_length-le t l)))

-- ---- the search for another place, from position i on, with the first stale entry before it
pub other_from : ℕ → List ℕ → ℕ → P.Option ℕ → List CacheEntry → P.Option ℕ
other_from clock x i stale [] = stale
other_from clock x i stale (e ∷ t) =
    cond (is_empty (held_in e (text_at x i e)))
    (P.Some i)
    (other_from clock x (i + 1) (cond (is_stale clock (held_in e (text_at x i e))) (option_or stale (P.Some i)) stale) t)

module _ (clock : ℕ) (x : List ℕ) where
  -- the place k of n entries that stand from i on
  abbrev from : ℕ → ℕ → ℕ → P.Option ℕ
  from i n k = cond (ltb k n) (P.Some (i + k)) P.None

  other_from_is : (i : ℕ) (stale : P.Option ℕ) (t : List CacheEntry)
      → other_from clock x i stale t ≡ option_or (from i (length t) (first_place is_empty (held_from x i t))) (option_or stale (from i (length t) (first_place (is_stale clock) (held_from x i t))))
  unfolding held_from first_place other_from
  other_from_is i P.None [] = refl
  other_from_is i (P.Some k) [] = refl
  other_from_is i stale (e ∷ t) = go (is_empty o) (is_stale clock o) (other_from_is (i + 1) (cond (is_stale clock o) (option_or stale (P.Some i)) stale) t)
    where
      o : Option Held
      o = held_in e (text_at x i e)

      c : List (Option Held)
      c = held_from x (i + 1) t

      n : ℕ
      n = length t

      f : ℕ
      f = first_place is_empty c

      g : ℕ
      g = first_place (is_stale clock) c

      at : (k : ℕ) → from i (suc n) (suc k) ≡ from (i + 1) n k
      at k = let z : i + 1 + k ≡ i + suc k = omega arith in rw (ltb_suc k n, z)

      here : from i (suc n) 0 ≡ P.Some i
      here = let z : i + 0 ≡ i = omega arith in rw (lt-ltb 0 (suc n) (omega arith), z)

      both : (s : P.Option ℕ) (b : P.Option ℕ) → option_or (option_or s (P.Some i)) b ≡ option_or s (P.Some i)
      both P.None b = refl
      both (P.Some k) b = refl

      go : (a b : Bool) → other_from clock x (i + 1) (cond b (option_or stale (P.Some i)) stale) t ≡ option_or (from (i + 1) n f) (option_or (cond b (option_or stale (P.Some i)) stale) (from (i + 1) n g))
          → cond a (P.Some i) (other_from clock x (i + 1) (cond b (option_or stale (P.Some i)) stale) t)
          ≡ option_or (from i (suc n) (cond a 0 (suc f))) (option_or stale (from i (suc n) (cond b 0 (suc g))))
      go true b ih = rw here
      go false true ih = rw (at f, here) (ih ∙ ap (option_or (from (i + 1) n f)) (both stale (from (i + 1) n g)))
      go false false ih = rw (at f, at g) ih

  pub other_place_is : (t : List CacheEntry) → other_from clock x 0 P.None t ≡ other_place clock (contents t x)
  unfolding other_place place_in else_place
  other_place_is t = rw (held_length x 0 t) (other_from_is 0 P.None t ∙ go (ltb f (length t)) refl)
    where
      f : ℕ
      f = first_place is_empty (contents t x)

      g : ℕ
      g = first_place (is_stale clock) (contents t x)

      go : (b : Bool) → ltb f (length t) ≡ b
          → option_or (cond b (P.Some (0 + f)) P.None) (from 0 (length t) g) ≡ cond (ltb (cond b f g) (length t)) (P.Some (cond b f g)) P.None
      go true e = let z : 0 + f ≡ f = omega arith in rw (e, z)
      go false e = let z : 0 + g ≡ g = omega arith in rw z

-- what the state of an entry says of what it holds
is_empty_at : (clock : ℕ) (o : Option Held) → state_of clock o ≡ S.Empty → is_empty o ≡ true
unfolding state_of is_empty
is_empty_at clock none e = refl
is_empty_at clock (some h) e = go (is_live_at clock h) e
  where
    go : (b : Bool) → cond b S.Live S.Stale ≡ S.Empty → false ≡ true
    go true k = never cc
    go false k = never cc

stale_at : (clock : ℕ) (o : Option Held) → state_of clock o ≡ S.Stale → (is_empty o ≡ false) × (is_stale clock o ≡ true)
unfolding state_of is_empty is_stale
stale_at clock none e = never cc
stale_at clock (some h) e = (refl, go (is_live_at clock h) e)
  where
    go : (b : Bool) → cond b S.Live S.Stale ≡ S.Stale → not b ≡ true
    go true k = never cc
    go false k = refl

live_at : (clock : ℕ) (o : Option Held) → state_of clock o ≡ S.Live → (is_empty o ≡ false) × (is_stale clock o ≡ false)
unfolding state_of is_empty is_stale
live_at clock none e = never cc
live_at clock (some h) e = (refl, go (is_live_at clock h) e)
  where
    go : (b : Bool) → cond b S.Live S.Stale ≡ S.Live → not b ≡ false
    go true k = refl
    go false k = never cc

-- ---- its loop, at an entry of which the code says what it is
module _ (clock : ℕ) (x : List ℕ) (t : List CacheEntry) (i : ℕ) (z : CacheEntry) (l : i < length t) (stale : P.Option ℕ) (inv : other_from clock x 0 P.None t ≡ other_from clock x i stale (drop i t)) where
  abbrev held : Option Held
  held = held_in (get_or t i z) (text_at x i (get_or t i z))

  abbrev Next : P.Option ℕ → Type 0
  Next r = other_from clock x 0 P.None t ≡ other_from clock x (i + 1) r (drop (i + 1) t)

  other_turn : other_from clock x 0 P.None t ≡ cond (is_empty held) (P.Some i) (other_from clock x (i + 1) (cond (is_stale clock held) (option_or stale (P.Some i)) stale) (drop (i + 1) t))
  unfolding other_from
  other_turn = inv ∙ ap (other_from clock x i stale) (entry_next t i z l)

  module _ (s : State) (q : s ≡ state_of clock held) where
    pub empty_found : s ≡ S.Empty → ◌≡◌ {A = P.Option ℕ} (P.Some i) (other_place clock (contents t x))
    unfolding is_empty
    empty_found e = sym (sym (other_place_is clock x t) ∙ (other_turn ∙ rw (is_empty_at clock held (sym q ∙ e))))

    pub stale_passed : s ≡ S.Stale → (r : P.Option ℕ) → r ≡ option_or stale (P.Some i) → Next r
    stale_passed e r o = other_turn ∙ let h = stale_at clock held (sym q ∙ e) in rw (h.0, h.1, o)

    pub live_passed : s ≡ S.Live → (r : P.Option ℕ) → r ≡ stale → Next r
    live_passed e r o = other_turn ∙ let h = live_at clock held (sym q ∙ e) in rw (h.0, h.1, o)

pub none_empty_left : (clock : ℕ) (x : List ℕ) (t : List CacheEntry) (i : ℕ) (stale : P.Option ℕ) → length t ≤ i → other_from clock x 0 P.None t ≡ other_from clock x i stale (drop i t) → stale ≡ other_place clock (contents t x)
unfolding other_from
none_empty_left clock x t i stale l inv = sym (sym (other_place_is clock x t) ∙ (inv ∙ ap (other_from clock x i stale) (drop_of_length-le t l)))
