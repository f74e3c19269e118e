-- No two cases of `Tries` stand for the same names or verdict: what its contract says of `names_to_try` fixes its result. Assumes nothing.
use mathlib.Core.Path.{◌≡◌, refl, sym, ap, ◌∙◌}
use mathlib.Core.Bool.{cond}
use mathlib.Core.List.{[], ◌∷◌}
use lib.Dec.{eqb}
use Rattle.tlsa.specs.Address.{expanded_name, host_name, NamesOrVerdict, names, verdict, meaning_of}
use Rattle.tlsa.specs.declared.Tries.{Tries}
use Rattle.tlsa.specs.declared.Tries.TheVariants.{ExpandedThenHost, HostOnly, NoName, AddressFailed, AddressMissing}

-- the case that stands for these names or this verdict
abbrev case_of : NamesOrVerdict → Tries
case_of (names []) = NoName
case_of (names (expanded_name ∷ l)) = ExpandedThenHost
case_of (names (host_name ∷ l)) = HostOnly
case_of (verdict n) = cond (eqb n 20) AddressFailed AddressMissing

case_back : (t : Tries) → case_of (meaning_of t) ≡ t
case_back ExpandedThenHost = refl
case_back HostOnly = refl
case_back NoName = refl
case_back AddressFailed = refl
case_back AddressMissing = refl

pub meaning_one : (t u : Tries) → meaning_of t ≡ meaning_of u → t ≡ u
meaning_one t u e = sym (case_back t) ∙ ap case_of e ∙ case_back u
