-- The ends of lines: a body is the lines that the paper writes, each with LF or CRLF, the last perhaps without, exactly where all its lines are of the form. Assumes nothing.
use Prim.Native.Nat.{ℕ, ◌≤◌}
use mathlib.Core.Path.{◌≡◌, refl, ap, ◌∙◌}
use mathlib.Core.Bool.{Bool, true, false, cond, not, ◌&&◌, and-false}
use mathlib.Core.List.{List, [], ◌∷◌, ◌++◌, map}
use native.Mathlib.Omega.{arith}
use lib.Dec.{eqb}
use lib.ListN.{length, get_or}
use borrow.Author.Tests.{eqb-true, not-true}
use Rattle.lists.specs.Bytes.{all}
use Rattle.lists.specs.Split.{to_first, lacks}
use Rattle.lists.proofs.Bools.{and_both, never}
use Rattle.fields.specs.Blank.{blank}
use Rattle.fields.specs.Name.{name_byte, letter_or_digit}
use Rattle.policies.specs.Lines.{LF, CR, lines}
use Rattle.policies.specs.Fields.{is_line}
use Rattle.policies.specs.Paper.{Pair, Line, Body, nothing, last, lf, crlf}
use Rattle.policies.proofs.Forms.{pair_of, line_made, line_read, line_lacks, line_some}

-- the last byte is CR
unfoldable pub ends_in_cr : List ℕ → Bool
ends_in_cr [] = false
ends_in_cr (x ∷ []) = eqb x CR
ends_in_cr (x ∷ y ∷ l) = ends_in_cr (y ∷ l)

-- a byte that ends no line and begins no CRLF is the first of its line
one_in_line : (x : ℕ) (t : List ℕ) → eqb x LF ≡ false → (eqb x CR && eqb (get_or t 0 0) LF) ≡ false → lines (x ∷ t) ≡ to_first x (lines t)
unfolding lines
one_in_line x t h k = rw (h, k)

two_in_line : (x y : ℕ) (l t : List ℕ) → lacks LF (x ∷ y ∷ l) ≡ true → lines (x ∷ y ∷ t) ≡ to_first x (lines (y ∷ t))
unfolding all
two_in_line x y l t h =
    let a = and_both (not (eqb x LF)) (lacks LF (y ∷ l)) h in
    let b = and_both (not (eqb y LF)) (lacks LF l) a.1 in
    one_in_line x (y ∷ t) (not-true (eqb x LF) a.0) (rw (not-true (eqb y LF) b.0) (and-false (eqb x CR)))

rest_lacks : (x : ℕ) (l : List ℕ) → lacks LF (x ∷ l) ≡ true → lacks LF l ≡ true
unfolding all
rest_lacks x l h = (and_both (not (eqb x LF)) (lacks LF l) h).1

first_lacks : (x : ℕ) (l : List ℕ) → lacks LF (x ∷ l) ≡ true → eqb x LF ≡ false
unfolding all
first_lacks x l h = not-true (eqb x LF) (and_both (not (eqb x LF)) (lacks LF l) h).0

-- What a line is, whatever its bytes but LF: what stands before its LF, or its CRLF, or the body's end. A CR elsewhere stays in its line
pub line_lf : (l s : List ℕ) → lacks LF l ≡ true → ends_in_cr l ≡ false → lines (l ++ (LF ∷ s)) ≡ l ∷ lines s
unfolding lines to_first ends_in_cr
line_lf [] s h k = refl
line_lf (x ∷ []) s h k = rw (first_lacks x [] h, k)
line_lf (x ∷ y ∷ l) s h k = two_in_line x y l (l ++ (LF ∷ s)) h ∙ ap (to_first x) (line_lf (y ∷ l) s (rest_lacks x (y ∷ l) h) k)

pub line_crlf : (l s : List ℕ) → lacks LF l ≡ true → lines (l ++ (CR ∷ LF ∷ s)) ≡ l ∷ lines s
unfolding lines to_first
line_crlf [] s h = refl
line_crlf (x ∷ []) s h = rw (first_lacks x [] h, and-false (eqb x CR))
line_crlf (x ∷ y ∷ l) s h = two_in_line x y l (l ++ (CR ∷ LF ∷ s)) h ∙ ap (to_first x) (line_crlf (y ∷ l) s (rest_lacks x (y ∷ l) h))

pub line_last : (l : List ℕ) → 1 ≤ length l → lacks LF l ≡ true → lines l ≡ l ∷ []
unfolding lines to_first
line_last [] o h = absurd (omega arith)
line_last (x ∷ []) o h = rw (first_lacks x [] h, and-false (eqb x CR))
line_last (x ∷ y ∷ l) o h = two_in_line x y l l h ∙ ap (to_first x) (line_last (y ∷ l) (omega arith) (rest_lacks x (y ∷ l) h))

clean_end : (l : List ℕ) → lacks CR l ≡ true → ends_in_cr l ≡ false
unfolding ends_in_cr all
clean_end [] h = refl
clean_end (x ∷ []) h = not-true (eqb x CR) (and_both (not (eqb x CR)) true h).0
clean_end (x ∷ y ∷ l) h = clean_end (y ∷ l) (and_both (not (eqb x CR)) (lacks CR (y ∷ l)) h).1

-- LF and CR stand in no line
no_lf : (l : List ℕ) (f : Pair) → Line l f → lacks LF l ≡ true
unfolding name_byte letter_or_digit blank
no_lf l f h = line_lacks LF refl refl refl refl l f h

pub no_cr : (l : List ℕ) (f : Pair) → Line l f → lacks CR l ≡ true
unfolding name_byte letter_or_digit blank
no_cr l f h = line_lacks CR refl refl refl refl l f h

-- what the paper writes is read: every line is of the form, and the names and values are its fields
Reads : List (List ℕ) → List Pair → Type 0
Reads ls fs = (all is_line ls ≡ true) × (map pair_of ls ≡ fs)

one_more : (l : List ℕ) (ls ms : List (List ℕ)) (f : Pair) (fs : List Pair) → Line l f → ms ≡ l ∷ ls → Reads ls fs → Reads ms (f ∷ fs)
unfolding Reads all
one_more l ls ms f fs h e ih =
    let k = line_read l f h in
    (rw (e, k.0) ih.0, rw (e, k.1, ih.1))

body_reads : (s : List ℕ) (fs : List Pair) → Body s fs → Reads (lines s) fs
unfolding Reads lines all
body_reads s fs nothing = (refl, refl)
body_reads s fs (last {l} {f} h) = one_more l [] (lines l) f [] h (line_last l (line_some l f h) (no_lf l f h)) (refl, refl)
body_reads s fs (lf {l} {s = t} {f} {fs = gs} h b) = one_more l (lines t) (lines s) f gs h (line_lf l t (no_lf l f h) (clean_end l (no_cr l f h))) (body_reads t gs b)
body_reads s fs (crlf {l} {s = t} {f} {fs = gs} h b) = one_more l (lines t) (lines s) f gs h (line_crlf l t (no_lf l f h)) (body_reads t gs b)

pub body_read : (s : List ℕ) (fs : List Pair) → Body s fs → (all is_line (lines s) ≡ true) × (map pair_of (lines s) ≡ fs)
unfolding Reads
body_read s fs b = body_reads s fs b

-- the other way round, first for lines of any bytes but LF and CR
data Ended : List ℕ → List (List ℕ) → Type 0 where
  none : Ended [] []
  bare : {l : List ℕ} → 1 ≤ length l → Ended l (l ∷ [])
  short : {l s : List ℕ} {ls : List (List ℕ)} → Ended s ls → Ended (l ++ (LF ∷ s)) (l ∷ ls)
  long : {l s : List ℕ} {ls : List (List ℕ)} → Ended s ls → Ended (l ++ (CR ∷ LF ∷ s)) (l ∷ ls)

-- one byte more at the front of the first line
one_byte : (x : ℕ) (s : List ℕ) (ls : List (List ℕ)) → Ended s ls → Ended (x ∷ s) (to_first x ls)
unfolding to_first
one_byte x s ls none = bare {l = x ∷ []} (omega arith)
one_byte x s ls (bare {l} o) = bare {l = x ∷ l} (omega arith)
one_byte x s ls (short {l} e) = short {l = x ∷ l} e
one_byte x s ls (long {l} e) = long {l = x ∷ l} e

first_clean : (x : ℕ) (ls : List (List ℕ)) → all (lacks CR) (to_first x ls) ≡ true → (eqb x CR ≡ false) × (all (lacks CR) ls ≡ true)
unfolding all to_first
first_clean x [] h = (not-true (eqb x CR) (and_both (not (eqb x CR)) true (and_both (not (eqb x CR) && true) true h).0).0, refl)
first_clean x (l ∷ ls) h =
    let a = and_both (lacks CR (x ∷ l)) (all (lacks CR) ls) h in
    let b = and_both (not (eqb x CR)) (lacks CR l) a.0 in
    (not-true (eqb x CR) b.0, rw b.1 a.1)

-- a body none of whose lines has a CR is made of its lines and their ends
Made : List ℕ → Type 0
Made s = all (lacks CR) (lines s) ≡ true → Ended s (lines s)

lines_made : (s : List ℕ) → Made s
unfolding Made lines all to_first
lines_made [] h = none
lines_made (x ∷ []) h = go (eqb x LF) refl h
  where
    go : (t : Bool) → eqb x LF ≡ t → all (lacks CR) (cond t ([] ∷ []) (cond (eqb x CR && false) [] (to_first x []))) ≡ true → Ended (x ∷ []) (cond t ([] ∷ []) (cond (eqb x CR && false) [] (to_first x [])))
    go true e h = let k : x ≡ LF = eqb-true x LF e in rw k (short {l = []} none)
    go false e h = rw (and-false (eqb x CR)) (one_byte x [] [] none)
lines_made (x ∷ y ∷ s) h = go (lines_made (y ∷ s)) (lines_made s) (eqb x LF) (eqb x CR) (eqb y LF) refl refl refl h
  where
    go : Made (y ∷ s) → Made s → (t u v : Bool) → eqb x LF ≡ t → eqb x CR ≡ u → eqb y LF ≡ v → all (lacks CR) (cond t ([] ∷ lines (y ∷ s)) (cond (u && v) (lines (y ∷ s)) (to_first x (lines (y ∷ s))))) ≡ true → Ended (x ∷ y ∷ s) (cond t ([] ∷ lines (y ∷ s)) (cond (u && v) (lines (y ∷ s)) (to_first x (lines (y ∷ s)))))
    go i j true u v e f g h = let k : x ≡ LF = eqb-true x LF e in rw k (short {l = []} (i h))
    go i j false true true e f g h =
        let k : x ≡ CR = eqb-true x CR f in
        let m : y ≡ LF = eqb-true y LF g in
        rw (k, m) (long {l = []} (j (rw g at h)))
    go i j false true false e f g h = never (cc (first_clean x (lines (y ∷ s)) h).0)
    go i j false false v e f g h = one_byte x (y ∷ s) (lines (y ∷ s)) (i (first_clean x (lines (y ∷ s)) h).1)

lines_clean : (ls : List (List ℕ)) → all is_line ls ≡ true → all (lacks CR) ls ≡ true
unfolding all
lines_clean [] h = refl
lines_clean (l ∷ ls) h =
    let k = and_both (is_line l) (all is_line ls) h in
    rw (no_cr l (pair_of l) (line_made l k.0), lines_clean ls k.1)

ended_body : (s : List ℕ) (ls : List (List ℕ)) → Ended s ls → all is_line ls ≡ true → Body s (map pair_of ls)
unfolding all
ended_body s ls none h = nothing
ended_body s ls (bare {l} o) h = last (line_made l (and_both (is_line l) true h).0)
ended_body s ls (short {l} {s = t} {ls = ms} e) h =
    let k = and_both (is_line l) (all is_line ms) h in
    lf (line_made l k.0) (ended_body t ms e k.1)
ended_body s ls (long {l} {s = t} {ls = ms} e) h =
    let k = and_both (is_line l) (all is_line ms) h in
    crlf (line_made l k.0) (ended_body t ms e k.1)

-- a body whose lines are all of the form is one that the paper writes
pub body_made : (s : List ℕ) → all is_line (lines s) ≡ true → Body s (map pair_of (lines s))
unfolding Made
body_made s h = ended_body s (lines s) (lines_made s (lines_clean (lines s) h)) h
