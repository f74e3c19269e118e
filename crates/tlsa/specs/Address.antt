-- Document 01, "A host's facts, in the order learnt": address result and TLSA names to try (RFC 7672, section 2.2).
use Rattle.std.specs.Prelude.{ℕ, List, [], ◌∷◌}
use Rattle.tlsa.specs.declared.Address.{Address}
use Rattle.tlsa.specs.declared.Address.TheVariants.{NoAliasSecure, NoAliasInsecure, AliasSecure, AliasFirstStepSecure, AliasFirstStepInsecure, Failed, NoAddress}
use Rattle.tlsa.specs.declared.Tries.{Tries}
use Rattle.tlsa.specs.declared.Tries.TheVariants.{ExpandedThenHost, HostOnly, NoName, AddressFailed, AddressMissing}

-- A name at which TLSA records are asked for: the fully expanded name of the host, or the host name.
pub data TlsaName : Type 0 where
  expanded_name host_name : TlsaName

-- The number that asks for the TLSA answer at a name: 13 at the expanded name, 14 at the host name.
abbrev pub question_of : TlsaName → ℕ
question_of expanded_name = 13
question_of host_name = 14

-- TLSA names to try, in order, or a verdict.
pub data NamesOrVerdict : Type 0 where
  names : List TlsaName → NamesOrVerdict
  verdict : ℕ → NamesOrVerdict

-- What each address result gives. Not an alias, secure: host. Not an alias, insecure: none. Alias, secure at every stage: expanded name, then host.
-- Alias whose first step is secure but whose address is not: host. Alias with insecure first step: none. Failed: 20. No address: 21.
abbrev pub names_to_try : Address → NamesOrVerdict
names_to_try NoAliasSecure = names (host_name ∷ [])
names_to_try NoAliasInsecure = names []
names_to_try AliasSecure = names (expanded_name ∷ host_name ∷ [])
names_to_try AliasFirstStepSecure = names (host_name ∷ [])
names_to_try AliasFirstStepInsecure = names []
names_to_try Failed = verdict 20
names_to_try NoAddress = verdict 21

-- What each case of `Tries` stands for.
abbrev pub meaning_of : Tries → NamesOrVerdict
meaning_of ExpandedThenHost = names (expanded_name ∷ host_name ∷ [])
meaning_of HostOnly = names (host_name ∷ [])
meaning_of NoName = names []
meaning_of AddressFailed = verdict 20
meaning_of AddressMissing = verdict 21
