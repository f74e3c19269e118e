-- What reading a TLSA answer comes to, and what a set needs, as tests. Assumes nothing.
use Prim.Native.Nat.{ℕ}
use mathlib.Core.Path.{◌≡◌, refl}
use mathlib.Core.Bool.{Bool, true, false, cond, ◌||◌}
use mathlib.Core.List.{List, [], ◌∷◌}
use Rattle.lists.specs.Bytes.{any}
use Rattle.lists.proofs.Bools.{by_cond}
use Rattle.tlsa.specs.declared.Needs.TheVariants as N
use Rattle.tlsa.specs.declared.Read.{Read}
use Rattle.tlsa.specs.Record.{short, usable}
use Rattle.tlsa.specs.Answer.{Answer, secure, insecure, absent, failed, needs_of, taken_of, read_of, secure_records}
use Rattle.hosts.specs.Tree.{Rules, verdict}
use Rattle.hosts.specs.Facts.{Base}
use Rattle.hosts.specs.Rules.{is_authentication, is_tls, set, connect, after_answer}

-- a set needs DANE authentication exactly where it has a usable record, and TLS where it has any
pub authentication_is : (rs : List (List ℕ)) → is_authentication (needs_of rs) ≡ any usable rs
unfolding needs_of any
authentication_is [] = refl
authentication_is (r ∷ rs) = go (usable r || any usable rs)
  where
    go : (x : Bool) → is_authentication (cond x N.Authentication N.Tls) ≡ x
    go true = refl
    go false = refl

pub tls_is : (r : List ℕ) (rs : List (List ℕ)) → is_tls (needs_of (r ∷ rs)) ≡ true
unfolding needs_of
tls_is r rs = go (any usable (r ∷ rs))
  where
    go : (x : Bool) → is_tls (cond x N.Authentication N.Tls) ≡ true
    go true = refl
    go false = refl

-- the rules after an answer, by cases: a failed lookup or a record under 3 bytes; the next name; a set taken
pub by_answer : (b : Base) (domain : List ℕ) (next : Rules) (P : Answer → Rules → Type 0)
    → P failed (verdict 22) → P absent next → P insecure next → P (secure []) next
    → ((r : List ℕ) (rs : List (List ℕ)) → any short (r ∷ rs) ≡ true → P (secure (r ∷ rs)) (verdict 22))
    → ((r : List ℕ) (rs : List (List ℕ)) → any short (r ∷ rs) ≡ false → P (secure (r ∷ rs)) (connect b (set domain (r ∷ rs))))
    → (a : Answer) → P a (after_answer b domain (secure_records a) next (read_of a))
unfolding read_of taken_of any
by_answer b domain next P f a i e s t (secure []) = e
by_answer b domain next P f a i e s t (secure (r ∷ rs)) = by_cond (λ (x : Read). P (secure (r ∷ rs)) (after_answer b domain (r ∷ rs) next x)) (short r || any short rs) (s r rs) (t r rs)
by_answer b domain next P f a i e s t insecure = i
by_answer b domain next P f a i e s t absent = a
by_answer b domain next P f a i e s t failed = f
