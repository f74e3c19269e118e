-- RFC 5280, 4.1, 4.2 and 4.2.1.6: the fields of Certificate, TBSCertificate, its subject, Extension and GeneralNames. Document 02, No. 7: "RFC 5280's tags (with those
-- inside explicit ones) and order bind" them, and their "lists may be empty". One table says which element may stand at a place, what stands in it, and which place follows it.
use Rattle.std.specs.Prelude.{ℕ, ◌+◌, Bool, true, false, cond, List, [], ◌∷◌, eqb, take, Option, None, Some}
use Rattle.lists.specs.Equal.{same_bytes}
use Rattle.x509.specs.declared.Place.{Place}
use Rattle.x509.specs.declared.Place.TheVariants.{Certificate, TbsCertificate, SignatureAlgorithm, SignatureValue, Version, VersionNumber, SerialNumber, Signature, Issuer, Validity, Subject, RelativeDistinguishedName, AttributeTypeAndValue, AttributeType, AttributeValue, CommonNameType, CommonName, SubjectPublicKeyInfo, IssuerUniqueId, SubjectUniqueId, Extensions, ExtensionList, Extension, OtherExtension, ExtnId, Critical, ExtnValue, AltNameId, AltNameCritical, AltNameValue, AltNames, GeneralName, DirectoryName, End}
use Rattle.x509.specs.declared.Note.{Note}
use Rattle.x509.specs.declared.Note.TheVariants.{Nothing, KeyInfo, NameValue, Alternatives}
use Rattle.x509.specs.declared.Field.{Field}

-- X.690's universal tags, with the constructed bit
abbrev pub boolean : ℕ
boolean = 1

abbrev pub integer : ℕ
integer = 2

abbrev pub bit_string : ℕ
bit_string = 3

abbrev pub octet_string : ℕ
octet_string = 4

abbrev pub object_identifier : ℕ
object_identifier = 6

abbrev pub sequence : ℕ
sequence = 48

abbrev pub set : ℕ
set = 49

-- the tag [n] of a primitive element, and of a constructed one
abbrev pub primitive : ℕ → ℕ
primitive n = 128 + n

abbrev pub constructed : ℕ → ℕ
constructed n = 160 + n

-- the object identifiers 2.5.29.17 of the extension subjectAltName and 2.5.4.3 of the attribute commonName, as elements
abbrev pub subject_alt_name : List ℕ
subject_alt_name = object_identifier ∷ 3 ∷ 85 ∷ 29 ∷ 17 ∷ []

abbrev pub common_name : List ℕ
common_name = object_identifier ∷ 3 ∷ 85 ∷ 4 ∷ 3 ∷ []

-- the contents of an element begin with that object identifier
unfoldable pub is_of : List ℕ → List ℕ → Bool
is_of identifier contents = same_bytes (take 5 contents) identifier

-- an element of any tag, in which anything may stand
abbrev pub anything : Place → Option Field
anything after = Some (record { note = Nothing; inside = None; after = after })

-- an element with the tag that is wanted, in which anything may stand
unfoldable pub tagged : ℕ → Place → ℕ → Option Field
tagged wanted after tag = cond (eqb tag wanted) (anything after) None

-- an element with the tag that is wanted, in which fields stand, from the place `inside` on
unfoldable pub holds : ℕ → Place → Place → ℕ → Option Field
holds wanted inside after tag = cond (eqb tag wanted) (Some (record { note = Nothing; inside = Some inside; after = after })) None

-- the first, or else the second: where an element is optional, what follows it may stand in its place
unfoldable pub or_else : Option Field → Option Field → Option Field
or_else (Some f) other = Some f
or_else None other = other

-- the reader takes note of the element
unfoldable pub noting : Note → Option Field → Option Field
noting note (Some f) = Some (record { note = note; inside = f.inside; after = f.after })
noting note None = None

-- GeneralName ::= CHOICE: dNSName [2], rfc822Name [1], uniformResourceIdentifier [6], iPAddress [7] and registeredID [8] are strings
unfoldable pub string_name : ℕ → Option Field
string_name tag =
    or_else (tagged (primitive 2) GeneralName tag)
    (or_else (tagged (primitive 1) GeneralName tag)
    (or_else (tagged (primitive 6) GeneralName tag)
    (or_else (tagged (primitive 7) GeneralName tag) (tagged (primitive 8) GeneralName tag))))

-- otherName [0], x400Address [3], directoryName [4] and ediPartyName [5] are made of elements; the tag of directoryName is explicit, since a Name is a CHOICE
unfoldable pub built_name : ℕ → Option Field
built_name tag =
    or_else (tagged (constructed 0) GeneralName tag)
    (or_else (tagged (constructed 3) GeneralName tag)
    (or_else (holds (constructed 4) DirectoryName GeneralName tag) (tagged (constructed 5) GeneralName tag)))

-- the element that may stand at a place, by its tag and its contents
unfoldable pub expects : Place → ℕ → List ℕ → Option Field
expects Certificate tag contents = holds sequence TbsCertificate End tag
-- Certificate
expects TbsCertificate tag contents = holds sequence Version SignatureAlgorithm tag
expects SignatureAlgorithm tag contents = tagged sequence SignatureValue tag
expects SignatureValue tag contents = tagged bit_string End tag
-- TBSCertificate: version is explicit [0] and has a default; issuerUniqueID [1] and subjectUniqueID [2] are implicit bit strings; extensions are explicit [3]
expects Version tag contents = or_else (holds (constructed 0) VersionNumber SerialNumber tag) (tagged integer Signature tag)
expects VersionNumber tag contents = tagged integer End tag
expects SerialNumber tag contents = tagged integer Signature tag
expects Signature tag contents = tagged sequence Issuer tag
expects Issuer tag contents = tagged sequence Validity tag
expects Validity tag contents = tagged sequence Subject tag
expects Subject tag contents = holds sequence RelativeDistinguishedName SubjectPublicKeyInfo tag
expects SubjectPublicKeyInfo tag contents = noting KeyInfo (tagged sequence IssuerUniqueId tag)
expects IssuerUniqueId tag contents = or_else (tagged (primitive 1) SubjectUniqueId tag) (or_else (tagged (primitive 2) Extensions tag) (holds (constructed 3) ExtensionList End tag))
expects SubjectUniqueId tag contents = or_else (tagged (primitive 2) Extensions tag) (holds (constructed 3) ExtensionList End tag)
expects Extensions tag contents = holds (constructed 3) ExtensionList End tag
-- subject: sets of attributes, each with a type and a value; the value of a commonName is noted
expects RelativeDistinguishedName tag contents = holds set AttributeTypeAndValue RelativeDistinguishedName tag
expects AttributeTypeAndValue tag contents =
    cond (is_of common_name contents)
    (holds sequence CommonNameType AttributeTypeAndValue tag)
    (holds sequence AttributeType AttributeTypeAndValue tag)
expects AttributeType tag contents = tagged object_identifier AttributeValue tag
expects AttributeValue tag contents = anything End
expects CommonNameType tag contents = tagged object_identifier CommonName tag
expects CommonName tag contents = noting NameValue (anything End)
-- extensions; after a subjectAltName another one is misplaced
expects ExtensionList tag contents = holds sequence Extension End tag
expects Extension tag contents = cond (is_of subject_alt_name contents) (holds sequence AltNameId OtherExtension tag) (holds sequence ExtnId Extension tag)
expects OtherExtension tag contents = cond (is_of subject_alt_name contents) None (holds sequence ExtnId OtherExtension tag)
-- Extension: critical has a default
expects ExtnId tag contents = tagged object_identifier Critical tag
expects Critical tag contents = or_else (tagged boolean ExtnValue tag) (tagged octet_string End tag)
expects ExtnValue tag contents = tagged octet_string End tag
-- the extension subjectAltName, in whose string GeneralNames stand
expects AltNameId tag contents = tagged object_identifier AltNameCritical tag
expects AltNameCritical tag contents = or_else (tagged boolean AltNameValue tag) (holds octet_string AltNames End tag)
expects AltNameValue tag contents = holds octet_string AltNames End tag
expects AltNames tag contents = noting Alternatives (holds sequence GeneralName End tag)
expects GeneralName tag contents = or_else (string_name tag) (built_name tag)
expects DirectoryName tag contents = tagged sequence End tag
-- after the last field
expects End tag contents = None

-- nothing that is required is still to come: what holds the fields may end at that place
unfoldable pub may_end : Place → Bool
may_end Certificate = false
may_end TbsCertificate = false
may_end SignatureAlgorithm = false
may_end SignatureValue = false
may_end Version = false
may_end VersionNumber = false
may_end SerialNumber = false
may_end Signature = false
may_end Issuer = false
may_end Validity = false
may_end Subject = false
may_end RelativeDistinguishedName = true
may_end AttributeTypeAndValue = true
may_end AttributeType = false
may_end AttributeValue = false
may_end CommonNameType = false
may_end CommonName = false
may_end SubjectPublicKeyInfo = false
may_end IssuerUniqueId = true
may_end SubjectUniqueId = true
may_end Extensions = true
may_end ExtensionList = false
may_end Extension = true
may_end OtherExtension = true
may_end ExtnId = false
may_end Critical = false
may_end ExtnValue = false
may_end AltNameId = false
may_end AltNameCritical = false
may_end AltNameValue = false
may_end AltNames = false
may_end GeneralName = true
may_end DirectoryName = false
may_end End = true
