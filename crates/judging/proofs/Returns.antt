-- What the call's functions return, and how they join to `certificate_answer`. Assumes nothing.
use Prim.Native.Nat.{ℕ, ◌^◌, ◌<◌, ◌≤◌}
use mathlib.Core.Path.{◌≡◌, refl, sym, ◌∙◌}
use mathlib.Core.Bool.{Bool, true, false, cond}
use mathlib.Core.List.{List, [], ◌∷◌, ◌++◌}
use native.Mathlib.Omega.{arith}
use borrow.Author.Rules.{rules}
use borrow.Author.Tests.{lt-ltb}
use lib.Dec.{ltb}
use lib.ListN.{length, get_or, take}
use Rattle.std.specs.Prelude.{Option, Some, None, MatchOption, option_copied}
use Rattle.std.specs.Borrow.{Bor}
use Rattle.std.specs.Prelude.{Result, Ok, Err}
use Rattle.lists.proofs.Bools.{never}
use Rattle.numbers.specs.Numbers.{numbers, written}
use Rattle.numbers.specs.Pieces.{cut}
use Rattle.certificates.specs.Limits.{yes_no, chain_fits}
use Rattle.hosts.specs.declared.HostAnswer.{HostAnswer}
use Rattle.hosts.specs.Arguments.{Arguments}
use Rattle.hosts.specs.Call.{refused, host_answer}
use Rattle.x509.specs.declared.Found.{Found}
use Rattle.leaf.specs.declared.ReadError.{ReadError}
use Rattle.leaf.specs.Read.{read_leaf}
use Rattle.judging.specs.declared.Refusal.{Refusal}
use Rattle.judging.specs.Judging.{is_present, has_leaf, leaf_of, nameless, on_read, read_answer, chain_keeps, chain_answer, certificate_answer}
use Rattle.judging.specs.Stages.{number_of, leaf_in, read_as, chain_read, unplaced_call, refused_after}
use Rattle.judging.proofs.Read.{key_order, key_inside}
use Rattle.judging.proofs.Chain.{chain_short, chain_leaf}
use Rattle.judging.proofs.Order.{leaf_counts, answer_after}
use Rattle.judging.proofs.Agree.{without_leaf, with_leaf}

-- key places too many
pub chain_long : (C L K D Q : List ℕ) → 56 < length K → false ≡ chain_fits C L (written (0 ∷ 0 ∷ []) ++ K) D Q
chain_long C L K D Q h = go (chain_fits C L (written (0 ∷ 0 ∷ []) ++ K) D Q) refl
  where
    go : (b : Bool) → chain_fits C L (written (0 ∷ 0 ∷ []) ++ K) D Q ≡ b → false ≡ b
    go true e = absurd (omega (arith, chain_short C L K D Q e))
    go false e = refl

-- the leaf, where there is one
module _ (a : Arguments) where
  leaf_none : None ≡ leaf_in a → has_leaf a ≡ false
  unfolding leaf_in
  leaf_none e = go (has_leaf a) e
    where
      go : (b : Bool) → None ≡ cond b (Some (leaf_of a)) None → b ≡ false
      go true e = never cc
      go false e = refl

  leaf_some : (s : List ℕ) → Some s ≡ leaf_in a → (has_leaf a ≡ true) × (s ≡ leaf_of a)
  unfolding leaf_in
  leaf_some s e = go (has_leaf a) e
    where
      go : (b : Bool) → Some s ≡ cond b (Some (leaf_of a)) None → (b ≡ true) × (s ≡ leaf_of a)
      go true e = (refl, cc)
      go false e = never cc

-- the first certificate is the leaf
pub leaf_is : (a : Arguments) → a.numbers.certificates_given ≡ 1 → (o : Option (Bor (List ℕ))) (t : List (List ℕ))
    → MatchOption o ((cut a.certificates (numbers a.certificate_lengths) ≡ []) × (t ≡ [])) (λ x. cut a.certificates (numbers a.certificate_lengths) ≡ x.now ∷ t) → option_copied o ≡ leaf_in a
unfolding leaf_in has_leaf is_present leaf_of cut
leaf_is a e o t m = rw e (go (numbers a.certificate_lengths) o m)
  where
    go : (ns : List ℕ) (o : Option (Bor (List ℕ))) → MatchOption o ((cut a.certificates ns ≡ []) × (t ≡ [])) (λ x. cut a.certificates ns ≡ x.now ∷ t) → option_copied o ≡ cond (ltb 0 (length ns)) (Some (take (get_or ns 0 0) a.certificates)) None
    go [] None m = refl
    go [] (Some x) m = never cc
    go (n ∷ ns) None m = let z = m.0 in never cc
    go (n ∷ ns) (Some x) m = let z : take n a.certificates ≡ x.now = cc in rw (z, lt-ltb 0 (length (n ∷ ns)) (omega arith))

-- what comes of the certificates
chain_found : (s C L K D Q : List ℕ) (f : Found) → chain_read s C L K D Q ≡ Ok f → (chain_fits C L (written (0 ∷ 0 ∷ []) ++ K) D Q ≡ true) × (read_leaf s ≡ Ok f)
unfolding chain_read read_as
chain_found s C L K D Q f e = go (chain_fits C L (written (0 ∷ 0 ∷ []) ++ K) D Q) (read_leaf s) e
  where
    go : (b : Bool) (x : Result Found ReadError) → cond b (read_as x) (Err Refusal.OutsideLimits) ≡ Ok f → (b ≡ true) × (x ≡ Ok f)
    go true (Err r) e = never cc
    go true (Ok g) e = (refl, cc)
    go false x e = never cc

chain_refused : (a : Arguments) (r : Refusal) → chain_read (leaf_of a) a.certificates a.certificate_lengths a.key_places a.digests a.paths ≡ Err r → chain_answer a ≡ refused (number_of r)
unfolding chain_read read_as chain_answer read_answer chain_keeps number_of
chain_refused a r e = go (chain_fits a.certificates a.certificate_lengths (written (0 ∷ 0 ∷ []) ++ a.key_places) a.digests a.paths) (read_leaf (leaf_of a)) e
  where
    go : (b : Bool) (x : Result Found ReadError) → cond b (read_as x) (Err Refusal.OutsideLimits) ≡ Err r → cond b (read_answer a x) (refused 65) ≡ refused (number_of r)
    go true (Err (ReadError.Malformed o)) e = let z : Refusal.Leaf (ReadError.Malformed o) ≡ r = cc in rw (← z)
    go true (Err ReadError.ManyDnsIds) e = let z : Refusal.Leaf ReadError.ManyDnsIds ≡ r = cc in rw (← z)
    go true (Ok f) e = never cc
    go false x e = let z : Refusal.OutsideLimits ≡ r = cc in rw (← z)

-- a leaf that is read has at most 16,384 bytes, and the place of its key is of numbers of four bytes
module _ (s : List ℕ) (f : Found) (is_read : read_leaf s ≡ Ok f) (short : length s ≤ 16384) where
  pub key_start : f.key.start < 2 ^ 32
  key_start = omega (arith, key_order s f is_read, key_inside s f is_read)

  pub key_end : f.key.end < 2 ^ 32
  key_end = omega (arith, key_inside s f is_read)

pub ruleset key_laws = (key_start, key_end, rules)

-- the call's ways out, of arguments with no names of the leaf
module _ (b : Arguments) (r : HostAnswer) where
  pub answer_absent : None ≡ leaf_in (nameless b) → r ≡ host_answer (nameless b) → r ≡ certificate_answer (nameless b)
  answer_absent e f = f ∙ sym (without_leaf (nameless b) (leaf_none (nameless b) e))

  module _ (s : List ℕ) (there : Some s ≡ leaf_in (nameless b)) where
    pub answer_refused : (x : Refusal) → Err x ≡ chain_read s b.certificates b.certificate_lengths b.key_places b.digests b.paths → r ≡ refused_after (host_answer (unplaced_call (nameless b))) (number_of x) → r ≡ certificate_answer (nameless b)
    answer_refused x e f =
        let l = leaf_some (nameless b) s there in
        f ∙ answer_after (nameless b) (number_of x) l.0 (chain_refused (nameless b) x (rw (← l.1) (sym e)))

    module _ (found : Found) (e : Ok found ≡ chain_read s b.certificates b.certificate_lengths b.key_places b.digests b.paths) where
      pub answer_read : r ≡ host_answer (on_read (nameless b) s found) → r ≡ certificate_answer (nameless b)
      unfolding chain_keeps yes_no
      answer_read f =
          let l = leaf_some (nameless b) s there in
          let c = chain_found s b.certificates b.certificate_lengths b.key_places b.digests b.paths found (sym e) in
          f ∙ rw l.1 (sym (with_leaf (nameless b) l.0 c.0 found (rw (← l.1) c.1) refl))

-- what a call whose leaf is read holds
module _ (b : Arguments) (s : List ℕ) (there : Some s ≡ leaf_in (nameless b)) (found : Found) (e : Ok found ≡ chain_read s b.certificates b.certificate_lengths b.key_places b.digests b.paths) where
  pub asks_read : read_leaf s ≡ Ok found
  asks_read = (chain_found s b.certificates b.certificate_lengths b.key_places b.digests b.paths found (sym e)).1

  pub asks_places : length b.key_places ≤ 56
  asks_places = chain_short b.certificates b.certificate_lengths b.key_places b.digests b.paths (chain_found s b.certificates b.certificate_lengths b.key_places b.digests b.paths found (sym e)).0

  pub asks_leaf : length s ≤ 16384
  unfolding leaf_of
  asks_leaf =
      let l = leaf_some (nameless b) s there in
      let c = chain_found s b.certificates b.certificate_lengths b.key_places b.digests b.paths found (sym e) in
      rw l.1 (chain_leaf b.certificates b.certificate_lengths (written (0 ∷ 0 ∷ []) ++ b.key_places) b.digests b.paths (leaf_counts (nameless b) l.0) c.0)
