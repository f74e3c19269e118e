-- A step of the code, not of the rules: a certificate of the usual shape is read at sight, field by field, and any other one by the walk. Here stands what the walk comes to
-- where a function of src/lib.rt has seen its part of that shape; where it has not, it says nothing. The levels are those that are left at each place.
use Rattle.std.specs.Prelude.{ℕ, suc, ◌<◌, ◌≡◌, cond, List, length, eqb, drop, Option, None, Some, Ok}
use Rattle.der.specs.declared.Head.{Head}
use Rattle.der.specs.Header.{header}
use Rattle.x509.specs.declared.Place.{Place}
use Rattle.x509.specs.declared.Place.TheVariants.{Certificate, TbsCertificate, Version, SerialNumber, Signature, Subject, RelativeDistinguishedName, AttributeTypeAndValue, AttributeType, CommonNameType, IssuerUniqueId, ExtensionList, Extension, OtherExtension, ExtnId, AltNameId, AltNames, GeneralName}
use Rattle.x509.specs.declared.Note.{Note}
use Rattle.x509.specs.declared.Note.TheVariants.{NameValue, Alternatives}
use Rattle.x509.specs.declared.Noted.{Noted}
use Rattle.usual.specs.declared.Seen.{Seen}
use Rattle.x509.specs.Fields.{expects}
use Rattle.x509.specs.Walk.{noted, walk_run, walk_element, none_noted}

-- the element at a place, if it has that tag
unfoldable pub tagged_by : ℕ → Option Head → Option Head
tagged_by tag (Some h) = cond (eqb h.tag tag) (Some h) None
tagged_by tag None = None

unfoldable pub tagged : List ℕ → ℕ → ℕ → Option Head
tagged s at tag = tagged_by tag (header at (drop at s))

-- the same, if it is all that stands from that place to the end of s
unfoldable pub ends_at : ℕ → Option Head → Option Head
ends_at e (Some h) = cond (eqb h.end e) (Some h) None
ends_at e None = None

unfoldable pub alone : List ℕ → ℕ → ℕ → Option Head
alone s at tag = ends_at (length s) (tagged s at tag)

-- where the element with that tag ends
unfoldable pub end_by : Option Head → Option ℕ
end_by (Some h) = Some h.end
end_by None = None

unfoldable pub end_of : List ℕ → ℕ → ℕ → Option ℕ
end_of s at tag = end_by (tagged s at tag)

-- what is noted
abbrev pub notes : ℕ → ℕ → ℕ → Noted
notes key name alternatives = record { key = key; name = name; alternatives = alternatives }

-- the run from `at` to the end of s passes
abbrev pub Ends : ℕ → Place → Noted → List ℕ → ℕ → Noted → Type 0
Ends levels place n s at m = walk_run (walk_element levels) place n s at ≡ Ok m

-- the run goes on from `at` to e, at another place
abbrev pub Goes : ℕ → Place → Noted → List ℕ → ℕ → Place → Noted → ℕ → Type 0
Goes levels p n s at q m e = walk_run (walk_element levels) p n s at ≡ walk_run (walk_element levels) q m s e

-- an element with that tag, in which anything may stand, at each place where it may stand
unfoldable pub FreeTo : ℕ → List ℕ → ℕ → ℕ → ℕ → Type 0
FreeTo levels s at tag e = (p after : Place) (note : Note) (n : Noted) → ((c : List ℕ) → expects p tag c ≡ Some (record { note = note; inside = None; after = after })) → Goes (suc levels) p n s at after (noted note at n) e

-- where it ends
unfoldable pub FreeSeen : ℕ → List ℕ → ℕ → ℕ → Option ℕ → Type 0
FreeSeen levels s at tag (Some e) = FreeTo levels s at tag e
FreeSeen levels s at tag None = Unit {0}

-- the fields of an extension, of an attribute with its value at v, and of a subjectAltName with GeneralNames at v
unfoldable pub ExtensionEnds : List ℕ → ℕ → Type 0
ExtensionEnds s at = (n : Noted) → Ends 11 ExtnId n s at n

unfoldable pub AttributeEnds : List ℕ → ℕ → ℕ → Type 0
AttributeEnds s at v = (n : Noted) → Ends 11 AttributeType n s at n × Ends 11 CommonNameType n s at (noted NameValue v n)

unfoldable pub NamesEnd : List ℕ → ℕ → Type 0
NamesEnd s at = (n : Noted) → Ends 9 GeneralName n s at n

unfoldable pub AltNamesEnd : List ℕ → ℕ → Type 0
AltNamesEnd s at = (n : Noted) → Ends 10 AltNames n s at (noted Alternatives at n)

unfoldable pub AltNameEnds : List ℕ → ℕ → ℕ → Type 0
AltNameEnds s at v = (0 < v) × ((n : Noted) → Ends 11 AltNameId n s at (noted Alternatives v n))

-- one attribute, with the common name so far
unfoldable pub AttributeSeen : List ℕ → ℕ → ℕ → Option ℕ → Type 0
AttributeSeen s at name (Some m) = (k a : ℕ) → Ends 12 AttributeTypeAndValue (notes k name a) s at (notes k m a)
AttributeSeen s at name None = Unit {0}

-- a set of one attribute, to its end, with the common name so far
unfoldable pub SetSeen : List ℕ → Seen → Option Seen → Type 0
SetSeen s f (Some t) = (f.at < t.at) × ((k a : ℕ) → Goes 13 RelativeDistinguishedName (notes k f.noted a) s f.at RelativeDistinguishedName (notes k t.noted a) t.at)
SetSeen s f None = Unit {0}

-- the sets of a subject
unfoldable pub SubjectSeen : List ℕ → ℕ → Option ℕ → Type 0
SubjectSeen s at (Some m) = (k a : ℕ) → Ends 13 RelativeDistinguishedName (notes k 0 a) s at (notes k m a)
SubjectSeen s at None = Unit {0}

-- the place among extensions, by where the GeneralNames begin that have been seen: after a subjectAltName only others
abbrev pub extension_place : ℕ → Place
extension_place a = cond (eqb a 0) Extension OtherExtension

-- an extension, to its end, with where the GeneralNames begin so far
unfoldable pub ExtensionSeen : List ℕ → Seen → Option Seen → Type 0
ExtensionSeen s f (Some t) = (f.at < t.at) × ((k m : ℕ) → Goes 12 (extension_place f.noted) (notes k m f.noted) s f.at (extension_place t.noted) (notes k m t.noted) t.at)
ExtensionSeen s f None = Unit {0}

-- extensions, the list of them, and what stands after the public key info
unfoldable pub ExtensionsSeen : List ℕ → ℕ → Option ℕ → Type 0
ExtensionsSeen s at (Some b) = (k m : ℕ) → Ends 12 Extension (notes k m 0) s at (notes k m b)
ExtensionsSeen s at None = Unit {0}

unfoldable pub ListSeen : List ℕ → ℕ → Option ℕ → Type 0
ListSeen s at (Some b) = (k m : ℕ) → Ends 13 ExtensionList (notes k m 0) s at (notes k m b)
ListSeen s at None = Unit {0}

unfoldable pub TailSeen : List ℕ → ℕ → Option ℕ → Type 0
TailSeen s at (Some b) = (k m : ℕ) → Ends 14 IssuerUniqueId (notes k m 0) s at (notes k m b)
TailSeen s at None = Unit {0}

-- where the version ends; the serial number; the signature's algorithm, issuer and validity
unfoldable pub VersionSeen : List ℕ → ℕ → Option ℕ → Type 0
VersionSeen s at (Some e) = (n : Noted) → Goes 14 Version n s at SerialNumber n e
VersionSeen s at None = Unit {0}

unfoldable pub SerialSeen : List ℕ → ℕ → Option ℕ → Type 0
SerialSeen s at (Some e) = (n : Noted) → Goes 14 Version n s at Signature n e
SerialSeen s at None = Unit {0}

unfoldable pub MiddleSeen : List ℕ → ℕ → Option ℕ → Type 0
MiddleSeen s at (Some e) = (n : Noted) → Goes 14 Signature n s at Subject n e
MiddleSeen s at None = Unit {0}

-- from the subject on; TBSCertificate; Certificate; and all of it
unfoldable pub SubjectOnSeen : List ℕ → ℕ → Option Noted → Type 0
SubjectOnSeen s at (Some n) = Ends 14 Subject none_noted s at n
SubjectOnSeen s at None = Unit {0}

unfoldable pub TbsSeen : List ℕ → ℕ → Option Noted → Type 0
TbsSeen s at (Some n) = Ends 14 Version none_noted s at n
TbsSeen s at None = Unit {0}

unfoldable pub FieldsSeen : List ℕ → ℕ → Option Noted → Type 0
FieldsSeen s at (Some n) = Ends 15 TbsCertificate none_noted s at n
FieldsSeen s at None = Unit {0}

unfoldable pub CertificateSeen : List ℕ → Option Noted → Type 0
CertificateSeen s (Some n) = Ends 16 Certificate none_noted s 0 n
CertificateSeen s None = Unit {0}
