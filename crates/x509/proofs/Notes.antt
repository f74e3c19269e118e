-- What the walk of a certificate notes: elements that open in the certificate, and the public key info in every case. Assumes nothing.
use Rattle.std.specs.Prelude.{Option, None, Some, Result, Ok, Err}
use Prim.Native.Nat.{ℕ, zero, suc, ◌+◌, ◌-◌, ◌<◌, ◌≤◌}
use mathlib.Core.Path.{◌≡◌, refl, sym, subst, ◌∙◌}
use mathlib.Core.Bool.{Bool, true, false, cond, ◌||◌}
use mathlib.Core.List.{List, [], ◌++◌, append_assoc, append-nil}
use native.Mathlib.Omega.{arith}
use lib.ListN.{length, take, drop, take-append-drop}
use Rattle.lists.proofs.Bools.{apart, never}
use Rattle.der.specs.declared.Head.{Head}
use Rattle.der.specs.Header.{header}
use Rattle.der.specs.Walk as Der
use Rattle.der.specs.Walk.{fault}
use Rattle.der.proofs.Heads.{opens_bounds, end_inside}
use Rattle.der.specs.declared.Fault.{Fault}
use Rattle.x509.specs.declared.Place.{Place}
use Rattle.x509.specs.declared.Note.{Note}
use Rattle.x509.specs.declared.Progress.{Progress}
use Rattle.x509.specs.declared.Noted.{Noted}
use Rattle.x509.specs.Fields.{may_end}
use Rattle.x509.specs.Walk.{past, ElementWalker, noted, and_then, at_end, run_from, walk_run, walk_element, none_noted, walk_certificate}
use Rattle.x509.proofs.Plain.{run_apart, plain_element}
use Rattle.der.proofs.Longer.{opens_longer, walk_longer}
use Rattle.x509.proofs.Whole.{whole}
use Rattle.x509.proofs.Past.{Left, Passed, opened_passed, element_passed}
use Rattle.x509.proofs.Leads.{loose, due, due_on, due_in, is_key, leading_is, tag_of}

-- the public key info is noted, or still to come
unfoldable Key : Place → Noted → Type 0
Key p n = due p ≡ false → 0 < n.key

-- a walker of elements that keeps this
unfoldable KeepsKey : ElementWalker → Type 0
KeepsKey walk = (p : Place) (n : Noted) (s : List ℕ) (at next : ℕ) (q : Place) (m : Noted) → 0 < at → Key p n → walk p n s at ≡ past next q m → Key q m

past_noted : (n m : Noted) → ◌≡◌ {A = Result Noted Fault} (Ok n) (Ok m) → n ≡ m
past_noted n m e = cc

end_key : (p : Place) (n : Noted) (at : ℕ) (m : Noted) → Key p n → at_end p n at ≡ Ok m → 0 < m.key
unfolding at_end Key
end_key p n at m k e = go (may_end p) refl e
  where
    go : (b : Bool) → may_end p ≡ b → cond b (Ok n) (fault at) ≡ Ok m → 0 < m.key
    go true q e = subst (λ (x : Noted). 0 < x.key) (past_noted n m e) (k (due_on p q))
    go false q e = never cc

then_key : {A : Type 0} (w : Result Progress Fault) (go : ℕ → Place → Noted → Result Noted Fault) (m : Noted) → ((next : ℕ) (q : Place) (k : Noted) → w ≡ past next q k → go next q k ≡ Ok m → A)
    → and_then w go ≡ Ok m → A
unfolding and_then
then_key (Err o) go m f e = run_apart o m e
then_key (Ok x) go m f e = f x.at x.place x.noted refl e

from_key : (walk : ElementWalker) → KeepsKey walk → (s : List ℕ) (left skip : ℕ) (p : Place) (n : Noted) (at : ℕ) (m : Noted) → 0 < at → Key p n → run_from walk s left skip p n at ≡ Ok m → 0 < m.key
unfolding run_from KeepsKey
from_key walk f s zero skip p n at m i k e = end_key p n at m k e
from_key walk f s (suc left) zero p n at m i k e =
    then_key (walk p n s at) (λ next q o. run_from walk s left (next - (at + 1)) q o (at + 1)) m
    (λ next q o g h. from_key walk f s left (next - (at + 1)) q o (at + 1) m (omega arith) (f p n s at next q o i k g) h) e
from_key walk f s (suc left) (suc skip) p n at m i k e = from_key walk f s left skip p n (at + 1) m (omega arith) k e

run_key : (walk : ElementWalker) → KeepsKey walk → (p : Place) (n : Noted) (s : List ℕ) (at : ℕ) (m : Noted) → 0 < at → Key p n → walk_run walk p n s at ≡ Ok m → 0 < m.key
unfolding walk_run
run_key walk f p n s at m i k e = from_key walk f s (length s - at) 0 p n at m i k e

-- what was noted stays noted
noted_key : (note : Note) (at : ℕ) (n : Noted) → 0 < at → 0 < n.key → 0 < (noted note at n).key
unfolding noted
noted_key Note.Nothing at n i k = k
noted_key Note.KeyInfo at n i k = i
noted_key Note.NameValue at n i k = k
noted_key Note.Alternatives at n i k = k

noted_here : (note : Note) (at : ℕ) (n : Noted) → 0 < at → is_key note ≡ true → 0 < (noted note at n).key
unfolding noted is_key
noted_here Note.Nothing at n i k = apart k
noted_here Note.KeyInfo at n i k = i
noted_here Note.NameValue at n i k = apart k
noted_here Note.Alternatives at n i k = apart k

-- past an element: by what stands in it
left_key : (levels : ℕ) → KeepsKey (walk_element levels) → (s : List ℕ) (h : Head) → 0 < h.start → (n : Noted) (x : Option Place) (m : Noted)
    → (due_in x ≡ false → 0 < n.key) → Left (walk_run (walk_element levels)) s h n x m → 0 < m.key
unfolding Left due_in Key
left_key levels f s h i n None m k e = subst (λ (y : Noted). 0 < y.key) e (k refl)
left_key levels f s h i n (Some p) m k e = run_key (walk_element levels) f p n (take h.end s) h.start m i k e

module _ (levels : ℕ) (keeps : KeepsKey (walk_element levels)) (p : Place) (n : Noted) (s : List ℕ) (at next : ℕ) (q : Place) (m : Noted) (i : 0 < at) (x : Passed levels p n s at next q m) where
  field_key : due q ≡ false → due x.field.after || (is_key x.field.note || due_in x.field.inside) ≡ true → (b : Bool) → is_key x.field.note ≡ b → due_in x.field.inside ≡ false
      → 0 < (noted x.field.note at n).key
  field_key past l true y z = noted_here x.field.note at n i y
  field_key past l false y z = apart (rw (x.after, past, y, z) at l)

  inside_key : (due_in x.field.inside ≡ false → 0 < (noted x.field.note at n).key) → 0 < m.key
  inside_key k =
      left_key levels keeps s x.head (omega (arith, (opens_bounds at (drop at s) x.head x.opens).0)) (noted x.field.note at n) x.field.inside m k x.left

  passed_key : Key p n → Key q m
  unfolding Key
  passed_key k past = go (due p) refl
    where
      go : (b : Bool) → due p ≡ b → 0 < m.key
      go true d =
          inside_key (field_key past (leading_is p d x.head.tag (take (x.head.end - x.head.start) (drop x.head.start s)) x.field x.fits) (is_key x.field.note) refl)
      go false d = inside_key (λ z. noted_key x.field.note at n i (k d))

element_key : (levels : ℕ) → KeepsKey (walk_element levels)
unfolding KeepsKey walk_element
element_key zero p n s at next q m i k e = never cc
element_key (suc levels) p n s at next q m i k e = passed_key levels (element_key levels) p n s at next q m i (opened_passed levels p n s at next q m (header at (drop at s)) refl e) k

-- an element that opens in some bytes, and that X.690's walk accepts there
pub record Stands (s : List ℕ) (at : ℕ) : Type 0 where
  pub head : Head
  pub opens : header at (drop at s) ≡ Some head
  pub levels : ℕ
  pub walked : Der.walk_element (suc levels) s at ≡ Ok head.end

-- a SEQUENCE that does
pub record Sequence (s : List ℕ) (at : ℕ) : Type 0 where
  pub stands : Stands s at
  pub tag : stands.head.tag ≡ 48

-- Such an element begins inside the bytes, and what stands in it lies after its beginning and inside them.
pub stands_inside : (s : List ℕ) (at : ℕ) (x : Stands s at) → (at < x.head.start) × ((x.head.start ≤ x.head.end) × (x.head.end ≤ length s))
stands_inside s at x =
    let b = opens_bounds at (drop at s) x.head x.opens in
    (omega (arith, b.0), (b.1.0, end_inside s at (Some x.head) x.head (sym x.opens) refl))

-- each noted offset is 0 or that of such an element
pub record Offsets (s : List ℕ) (n : Noted) : Type 0 where
  pub key : 0 < n.key → Sequence s n.key
  pub name : 0 < n.name → Stands s n.name
  pub alternatives : 0 < n.alternatives → Sequence s n.alternatives

noted_stands : (s : List ℕ) (note : Note) (at : ℕ) (n : Noted) → Offsets s n → (x : Stands s at) → (loose note ≡ false → x.head.tag ≡ 48) → Offsets s (noted note at n)
unfolding noted loose
noted_stands s Note.Nothing at n y x t = y
noted_stands s Note.KeyInfo at n y x t = record { key = λ i. record { stands = x; tag = t refl }; name = y.name; alternatives = y.alternatives }
noted_stands s Note.NameValue at n y x t = record { key = y.key; name = λ i. x; alternatives = y.alternatives }
noted_stands s Note.Alternatives at n y x t = record { key = y.key; name = y.name; alternatives = λ i. record { stands = x; tag = t refl } }

-- a walker of elements, over a front of the bytes s, that keeps this
unfoldable KeepsNoted : List ℕ → ElementWalker → Type 0
KeepsNoted s walk = (p : Place) (n : Noted) (a b : List ℕ) (at next : ℕ) (q : Place) (m : Noted) → a ++ b ≡ s → Offsets s n → walk p n a at ≡ past next q m → Offsets s m

end_noted : (s : List ℕ) (p : Place) (n : Noted) (at : ℕ) (m : Noted) → Offsets s n → at_end p n at ≡ Ok m → Offsets s m
unfolding at_end
end_noted s p n at m y e = go (may_end p) e
  where
    go : (b : Bool) → cond b (Ok n) (fault at) ≡ Ok m → Offsets s m
    go true e = subst (λ (x : Noted). Offsets s x) (past_noted n m e) y
    go false e = never cc

from_noted : (s : List ℕ) (walk : ElementWalker) → KeepsNoted s walk → (a b : List ℕ) → a ++ b ≡ s → (left skip : ℕ) (p : Place) (n : Noted) (at : ℕ) (m : Noted) → Offsets s n
    → run_from walk a left skip p n at ≡ Ok m → Offsets s m
unfolding run_from KeepsNoted
from_noted s walk f a b i zero skip p n at m y e = end_noted s p n at m y e
from_noted s walk f a b i (suc left) zero p n at m y e =
    then_key (walk p n a at) (λ next q o. run_from walk a left (next - (at + 1)) q o (at + 1)) m
    (λ next q o g h. from_noted s walk f a b i left (next - (at + 1)) q o (at + 1) m (f p n a b at next q o i y g) h) e
from_noted s walk f a b i (suc left) (suc skip) p n at m y e = from_noted s walk f a b i left skip p n (at + 1) m y e

run_noted : (s : List ℕ) (walk : ElementWalker) → KeepsNoted s walk → (p : Place) (n : Noted) (a b : List ℕ) (at : ℕ) (m : Noted) → a ++ b ≡ s → Offsets s n → walk_run walk p n a at ≡ Ok m → Offsets s m
unfolding walk_run
run_noted s walk f p n a b at m i y e = from_noted s walk f a b i (length a - at) 0 p n at m y e

-- a front of a front
front_of : (a b s : List ℕ) (e : ℕ) → a ++ b ≡ s → take e a ++ (drop e a ++ b) ≡ s
front_of a b s e i = sym (append_assoc (take e a) (drop e a) b) ∙ rw (take-append-drop e a) i

left_noted : (s : List ℕ) (levels : ℕ) → KeepsNoted s (walk_element levels) → (a b : List ℕ) → a ++ b ≡ s → (h : Head) (n : Noted) (x : Option Place) (m : Noted)
    → Offsets s n → Left (walk_run (walk_element levels)) a h n x m → Offsets s m
unfolding Left
left_noted s levels f a b i h n None m y e = subst (λ (z : Noted). Offsets s z) e y
left_noted s levels f a b i h n (Some p) m y e =
    run_noted s (walk_element levels) f p n (take h.end a) (drop h.end a ++ b) h.start m (front_of a b s h.end i) y e

passed_noted : (s : List ℕ) (levels : ℕ) → KeepsNoted s (walk_element levels) → (p : Place) (n : Noted) (a b : List ℕ) (at next : ℕ) (q : Place) (m : Noted) → a ++ b ≡ s → Offsets s n
    → walk_element (suc levels) p n a at ≡ past next q m → Passed levels p n a at next q m → Offsets s m
passed_noted s levels f p n a b at next q m i y e x =
    let o : header at (drop at s) ≡ Some x.head = rw i at (opens_longer a b at x.head x.opens) in
    let w : Der.walk_element (suc levels) s at ≡ Ok next = rw i at (walk_longer (suc levels) a b at next (plain_element (suc levels) p n a at next q m e)) in
    let z : Stands s at = record { head = x.head; opens = o; levels = levels; walked = rw x.ends w } in
    left_noted s levels f a b i x.head (noted x.field.note at n) x.field.inside m
    (noted_stands s x.field.note at n y z (tag_of p x.head.tag (take (x.head.end - x.head.start) (drop x.head.start a)) x.field x.fits)) x.left

deep_past : {A : Type 0} (p : Place) (n : Noted) (a : List ℕ) (at next : ℕ) (q : Place) (m : Noted) → walk_element zero p n a at ≡ past next q m → A
unfolding walk_element
deep_past p n a at next q m e = never cc

element_noted : (s : List ℕ) (levels : ℕ) → KeepsNoted s (walk_element levels)
unfolding KeepsNoted
element_noted s zero p n a b at next q m i y e = deep_past p n a at next q m e
element_noted s (suc levels) p n a b at next q m i y e = passed_noted s levels (element_noted s levels) p n a b at next q m i y e (element_passed levels p n a at next q m e)

none_noted_lem : (s : List ℕ) → Offsets s none_noted
none_noted_lem s = record { key = λ i. absurd (omega (arith, i)); name = λ i. absurd (omega (arith, i)); alternatives = λ i. absurd (omega (arith, i)) }

begin_key : Key Place.TbsCertificate none_noted
unfolding Key due
begin_key e = apart (sym e)

-- what is noted of a certificate that is accepted
pub record NotedIn (s : List ℕ) (n : Noted) : Type 0 where
  pub key_given : 0 < n.key
  pub offsets : Offsets s n

-- Of a certificate that is accepted each noted offset is 0 or that of an element that opens in the certificate and that X.690's walk accepts; that of the public key info is not 0.
pub noted_opens : (s : List ℕ) (m : Noted) → walk_certificate s ≡ Ok m → NotedIn s m
noted_opens s m e =
    let one = whole s m e in
    let b = opens_bounds 0 s one.head one.opens in
    record {
      key_given = run_key (walk_element 15) (element_key 15) Place.TbsCertificate none_noted s one.head.start m (omega (arith, b.0)) begin_key one.fields;
      offsets = run_noted s (walk_element 15) (element_noted s 15) Place.TbsCertificate none_noted s [] one.head.start m (append-nil s) (none_noted_lem s) one.fields;
    }
