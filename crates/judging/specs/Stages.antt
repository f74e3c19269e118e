-- The contracts of this crate's private functions. No promise to a caller rests on this file: what the call answers is `certificate_answer`, and the proofs join the two.
use Rattle.std.specs.Prelude.{ℕ, cond, List, [], ◌∷◌, ◌++◌, eqb, Option, Some, None, Result, Ok, Err}
use Rattle.numbers.specs.Numbers.{written}
use Rattle.certificates.specs.Limits.{chain_fits}
use Rattle.hosts.specs.declared.HostAnswer.{HostAnswer}
use Rattle.hosts.specs.Arguments.{Arguments, arguments_of}
use Rattle.hosts.specs.Call.{refused}
use Rattle.x509.specs.declared.Found.{Found}
use Rattle.leaf.specs.declared.ReadError.{ReadError}
use Rattle.leaf.specs.declared.ReadError.TheVariants.{Malformed, ManyDnsIds}
use Rattle.leaf.specs.Read.{read_leaf}
use Rattle.judging.specs.declared.Refusal.{Refusal}
use Rattle.judging.specs.declared.Refusal.TheVariants.{OutsideLimits, Leaf}
use Rattle.judging.specs.Judging.{has_leaf, leaf_of, with_leaf}

-- the number of a refusal
unfoldable pub number_of : Refusal → ℕ
number_of OutsideLimits = 65
number_of (Leaf (Malformed o)) = 90
number_of (Leaf ManyDnsIds) = 91

-- the leaf, where there is one
unfoldable pub leaf_in : Arguments → Option (List ℕ)
leaf_in a = cond (has_leaf a) (Some (leaf_of a)) None

-- what is read of the leaf: what was found, or a refusal
unfoldable pub read_as : Result Found ReadError → Result Found Refusal
read_as (Err r) = Err (Leaf r)
read_as (Ok f) = Ok f

-- 65 for the certificates, before the leaf is read
unfoldable pub chain_read : (leaf certificates lengths key_places digests paths : List ℕ) → Result Found Refusal
chain_read leaf certificates lengths key_places digests paths =
    cond (chain_fits certificates lengths (written (0 ∷ 0 ∷ []) ++ key_places) digests paths) (read_as (read_leaf leaf)) (Err OutsideLimits)

-- the arguments of the plain call with no key place
abbrev pub unplaced_call : Arguments → Arguments
unplaced_call a = with_leaf a a.numbers.common_name_given [] a.dns_ids a.dns_id_lengths a.common_name

-- the arguments of the plain call with no key place, which it refuses where there is a leaf, with 65 at the latest
abbrev pub unplaced : Arguments → Arguments
unplaced a =
    arguments_of a.numbers a.next_hop a.expanded_next_hop a.host a.expanded a.body a.lengths1 a.records1 a.lengths2 a.records2 a.certificates
    a.certificate_lengths [] a.digests a.paths [] [] []

-- a refusal of the plain call, with that number instead of 65
unfoldable pub refused_after : HostAnswer → ℕ → HostAnswer
refused_after before number = cond (eqb before.number 65) (refused number) before
