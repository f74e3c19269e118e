-- Rules as a tree of questions, whatever they are: the verdict of a full set, the facts that it reaches, the walk over the facts given, and the TLSA answers that it reads.
use Rattle.std.specs.Prelude.{ℕ, ◌+◌, List, [], ◌∷◌}
use Rattle.std.proofs.Math.Option.{Option, none, some}
use Rattle.hosts.specs.Facts.{Fact, tlsa, starttls, handshake, certificates, Value, Facts, Full, given, value}

-- a verdict; or a question (the number that asks it, the fact), with the rules for each value of the fact
pub data Rules : Type 0 where
  verdict : ℕ → Rules
  ask : ℕ → (q : Fact) → (Value q → Rules) → Rules

-- a question: the number that asks it, and the fact
pub record Question : Type 0 where
  pub number : ℕ
  pub fact : Fact

-- the verdict of a full set
abbrev pub verdict_of : Rules → Full → ℕ
verdict_of (verdict v) f = v
verdict_of (ask n q k) f = verdict_of (k (value f q)) f

-- the questions whose facts a full set reaches, in order
abbrev pub reached : Rules → Full → List Question
reached (verdict v) f = []
reached (ask n q k) f = record { number = n; fact = q } ∷ reached (k (value f q)) f

-- what the walk comes to: a verdict, or the first fact that is not given
pub data Outcome : Type 0 where
  final : ℕ → Outcome
  missing : Question → Outcome

-- k of what is given, else b
abbrev pub on_given : {A B : Type 0} → Option A → B → (A → B) → B
on_given none b k = b
on_given (some a) b k = k a

-- the walk takes the facts in order and stops at a verdict, or at the first fact not given
abbrev pub walk : Rules → Facts → Outcome
walk (verdict v) g = final v
walk (ask n q k) g = on_given (given g q) (missing (record { number = n; fact = q })) (λ a. walk (k a) g)

-- 1 for a TLSA answer
abbrev pub is_tlsa : Fact → ℕ
is_tlsa (tlsa p) = 1
is_tlsa starttls = 0
is_tlsa handshake = 0
is_tlsa certificates = 0

-- how many TLSA answers the walk reads: a name that is asked for is not counted yet
abbrev pub answers_read : Rules → Facts → ℕ
answers_read (verdict v) g = 0
answers_read (ask n q k) g = on_given (given g q) 0 (λ a. is_tlsa q + answers_read (k a) g)
