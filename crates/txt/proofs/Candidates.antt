-- What the one pass over the RDATAs finds: their wire form, and the candidates among them. Assumes nothing.
use Prim.Native.Nat.{ℕ, ◌+◌, ◌-◌, ◌<◌, ◌≤◌}
use mathlib.Core.Path.{◌≡◌, refl, sym, ap, subst, ◌∙◌}
use mathlib.Core.Bool.{Bool, true, false, and-true, and-false}
use mathlib.Core.List.{List, [], ◌∷◌}
use native.Mathlib.Omega.{arith}
use lib.Dec.{eqb}
use lib.ListN.{length, take, drop, length-drop}
use denote.Ref.{Bor}
use borrow.Author.Tests.{eq-eqb, ne_eqb, eqb-true, eqb-false}
use Rattle.lists.specs.Bytes.{all}
use Rattle.lists.proofs.Laws.{take_rest}
use Rattle.numbers.specs.Numbers.{numbers, is_whole, sum}
use Rattle.numbers.specs.Pieces.{cut, sums_to}
use Rattle.txt.specs.declared.Found.{Found}
use Rattle.txt.specs.declared.Found.TheVariants.{Nothing, One, Several}
use Rattle.txt.specs.Rdata.{is_rdata, is_wire_form, joined, texts}
use Rattle.txt.specs.Txt.{is_candidate, candidates}
use Rattle.txt.specs.Steps.{SeenIs, with_one, wire_left, candidates_left}

-- two tests that are both true or both false
same_test : (a b c d : ℕ) → (a ≡ b → c ≡ d) → (c ≡ d → a ≡ b) → eqb a b ≡ eqb c d
same_test a b c d f g = go (eqb a b) refl
  where
    go : (t : Bool) → eqb a b ≡ t → t ≡ eqb c d
    go true q = sym (eq-eqb c d (f (eqb-true a b q)))
    go false q = sym (ne_eqb c d (λ e. eqb-false a b q (g e)))

-- nothing is left
pub none_left : (s ns : List ℕ) → ns ≡ [] → candidates_left s ns ≡ []
unfolding candidates_left cut candidates
none_left s ns e = rw e refl

pub wire_last : (s ns : List ℕ) → ns ≡ [] → wire_left s ns ≡ eqb 0 (length s)
unfolding wire_left cut sum all
wire_last s ns e = rw e (and-true (eqb 0 (length s)))

-- the first length is n, and ms are the others
module _ (s ns : List ℕ) (n : ℕ) (ms : List ℕ) (e : ns ≡ n ∷ ms) where
  pub wire_over : length s < n → wire_left s ns ≡ false
  unfolding wire_left sum
  wire_over o = rw (e, ne_eqb (n + sum ms) (length s) (λ z. omega arith)) refl

  module _ (fits : n ≤ length s) where
    after : take (length s - n) (drop n s) ≡ drop n s
    after = take_rest s n

    pub wire_bad : is_rdata (take n s) ≡ false → wire_left s ns ≡ false
    unfolding wire_left cut all
    wire_bad f = rw (e, f) (and-false (eqb (sum (n ∷ ms)) (length s)))

    pub wire_next : is_rdata (take n s) ≡ true → wire_left s ns ≡ wire_left (take (length s - n) (drop n s)) ms
    unfolding wire_left cut all sum
    wire_next t =
        let q : eqb (n + sum ms) (length s) ≡ eqb (sum ms) (length (drop n s)) = same_test (n + sum ms) (length s) (sum ms) (length (drop n s)) (λ z. omega (arith, length-drop n s)) (λ z. omega (arith, length-drop n s)) in
        rw (after, e, t, q) refl

    one_here : is_candidate (joined (take n s)) ≡ true → candidates_left s ns ≡ joined (take n s) ∷ candidates_left (drop n s) ms
    unfolding candidates_left cut candidates
    one_here t = rw (e, t) refl

    none_here : is_candidate (joined (take n s)) ≡ false → candidates_left s ns ≡ candidates_left (drop n s) ms
    unfolding candidates_left cut candidates
    none_here f = rw (e, f) refl

    -- what was found with this RDATA, of the candidates cs
    pub seen_other : (cs : List (List ℕ)) (r : Found) → is_candidate (joined (take n s)) ≡ false → SeenIs cs (candidates_left s ns) r → SeenIs cs (candidates_left (take (length s - n) (drop n s)) ms) r
    seen_other cs r f is = rw after (subst (λ z. SeenIs cs z r) (none_here f) is)

    pub seen_one : (cs : List (List ℕ)) (r : Found) (p : Bor (List ℕ)) → p.now ≡ take n s → is_candidate (joined (take n s)) ≡ true → SeenIs cs (candidates_left s ns) r → SeenIs cs (candidates_left (take (length s - n) (drop n s)) ms) (with_one r p)
    unfolding SeenIs
    seen_one cs Nothing p q t is = rw (after, q) (is ∙ one_here t, t)
    seen_one cs (One u) p q t is = omega (arith, ap length is.0, ap length (one_here t))
    seen_one cs Several p q t is = is

pub seen_start : (cs : List (List ℕ)) → SeenIs cs cs Nothing
unfolding SeenIs
seen_start cs = refl

-- the whole of the RDATAs
pub wire_odd : (s l : List ℕ) → is_whole l ≡ false → is_wire_form s l ≡ false
unfolding is_wire_form sums_to
wire_odd s l f = rw f

pub wire_whole : (s l : List ℕ) → is_whole l ≡ true → is_wire_form s l ≡ wire_left s (numbers l)
unfolding is_wire_form sums_to wire_left
wire_whole s l t = rw t

pub found_start : (s l : List ℕ) → candidates (texts s l) ≡ candidates_left s (numbers l)
unfolding texts candidates_left
found_start s l = refl

pub ruleset found_laws = (seen_start, wire_last, none_left, wire_over, wire_bad, wire_next, seen_other, seen_one)
