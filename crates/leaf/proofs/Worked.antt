-- Certificates, read by computation: one with every optional field, and what is refused when one thing in it is changed.
use Prim.Native.Nat.{ℕ, zero, suc}
use mathlib.Core.Path.{◌≡◌, refl}
use mathlib.Core.Bool.{cond}
use mathlib.Core.List.{List, [], ◌∷◌, ◌++◌, map}
use lib.Dec.{ltb}
use lib.ListN.{length, take, set, replicate}
use Rattle.lists.specs.Equal.{agree, same_byte}
use Rattle.lists.specs.Text.{text}
use Rattle.lists.specs.Write.{wrote_front}
use Rattle.numbers.specs.Numbers.{eight}
use Rattle.der.specs.Header.{value_of, long_size, short_size, headed, header, is_constructed}
use Rattle.der.specs.Elements.{with_head, elements_from, elements}
use Rattle.der.specs.Walk as Der
use Rattle.x509.specs.Fields.{is_of, tagged, holds, or_else, noting, string_name, built_name, expects, may_end}
use Rattle.x509.specs.Walk.{noted, and_then, at_end, run_from, walk_run, passing, leaving, walk_in, walk_met, opened, walk_element, walk_certificate}
use Rattle.x509.specs.Found.{whole_of, contents_of, whole_at, contents_at, name_at, alternatives_at, found_at, fields_by, fields_of}
use Rattle.leaf.specs.declared.CertificateAnswer.{CertificateAnswer}
use Rattle.leaf.specs.Names.{dns_names, dns_ids_from, dns_ids_of, each_as}
use Rattle.leaf.specs.Read.{reading_of, read_leaf, sixteen, accepted, answer_of, read_certificate, wrote_as, wrote_places}

-- an element with its header, of up to 255 bytes
abbrev element : ℕ → List ℕ → List ℕ
element tag c = cond (ltb (length c) 128) (tag ∷ length c ∷ c) (tag ∷ 129 ∷ length c ∷ c)

abbrev sequence : List ℕ → List ℕ
sequence c = element 48 c

abbrev blank : List ℕ
blank = sequence []

abbrev null : List ℕ
null = element 5 []

abbrev identifier : List ℕ → List ℕ
identifier c = element 6 c

-- the parts of TBSCertificate
abbrev version : List ℕ
version = element 160 (element 2 (2 ∷ []))

abbrev serial : List ℕ
serial = element 2 (5 ∷ [])

abbrev algorithm : List ℕ
algorithm = sequence (identifier (42 ∷ 3 ∷ []) ++ null)

abbrev issuer : List ℕ
issuer = sequence (element 1 [] ++ element 130 [])

abbrev validity : List ℕ
validity = sequence (element 23 (text "a") ++ element 24 (text "b"))

-- an attribute, a common name and an organization name
abbrev attribute : List ℕ → List ℕ → List ℕ
attribute type value = sequence (identifier type ++ value)

abbrev common : List ℕ → List ℕ
common value = attribute (85 ∷ 4 ∷ 3 ∷ []) value

abbrev organization : List ℕ
organization = attribute (85 ∷ 4 ∷ 10 ∷ []) (element 12 (text "o"))

abbrev subject : List ℕ
subject = sequence (element 49 (common (element 12 (text "one")) ++ organization) ++ element 49 (organization ++ common (element 19 (text "last"))))

abbrev key : List ℕ
key = sequence (sequence (identifier (42 ∷ [])) ++ element 3 (0 ∷ 4 ∷ []))

abbrev issuer_unique : List ℕ
issuer_unique = element 129 (0 ∷ 1 ∷ [])

abbrev subject_unique : List ℕ
subject_unique = element 130 (0 ∷ 2 ∷ [])

-- extensions: keyUsage, critical; subjectAltName, critical; subjectKeyIdentifier
abbrev extension : List ℕ → List ℕ → List ℕ
extension id value = sequence (identifier id ++ value)

abbrev critical : List ℕ
critical = element 1 (255 ∷ [])

abbrev usage : List ℕ
usage = extension (85 ∷ 29 ∷ 15 ∷ []) (critical ++ element 4 (255 ∷ []))

abbrev alt_name : List ℕ → List ℕ
alt_name value = extension (85 ∷ 29 ∷ 17 ∷ []) (critical ++ element 4 value)

abbrev key_identifier : List ℕ
key_identifier = extension (85 ∷ 29 ∷ 14 ∷ []) (element 4 (4 ∷ 200 ∷ []))

abbrev extensions : List ℕ → List ℕ
extensions list = element 163 (sequence list)

abbrev extensions_with : List ℕ → List ℕ
extensions_with value = usage ++ alt_name value ++ key_identifier

-- GeneralNames of all nine kinds, with two dNSName among them, by the second name and the fifth
abbrev names : List ℕ → List ℕ → List ℕ
names second fifth =
    sequence
    (element 160 (identifier (42 ∷ []) ++ element 160 (element 12 (text "x")))
    ++ second
    ++ element 130 (text "a.b")
    ++ element 163 (null ++ blank)
    ++ fifth
    ++ element 165 (element 161 (element 12 (text "p")) ++ element 160 [])
    ++ element 134 (text "u:x")
    ++ element 135 (10 ∷ 0 ∷ 0 ∷ 1 ∷ [])
    ++ element 136 (42 ∷ [])
    ++ element 130 (text "c.d.e")
    ++ element 134 (text "v"))

abbrev mail : List ℕ
mail = element 129 (text "m@x")

abbrev directory : List ℕ
directory = element 164 (sequence (null ++ null))

-- a certificate, by what stands in TBSCertificate and by its signature
abbrev signature : List ℕ
signature = element 3 (0 ∷ 1 ∷ [])

abbrev signed_by : List ℕ → List ℕ → List ℕ
signed_by signature tbs = sequence (sequence tbs ++ algorithm ++ signature)

abbrev signed : List ℕ → List ℕ
signed tbs = signed_by signature tbs

-- what stands in TBSCertificate, by its version and serial number, its subject, its unique identifiers and its extensions
abbrev fields : List ℕ → List ℕ → List ℕ → List ℕ → List ℕ
fields numbers subject uniques list = numbers ++ algorithm ++ issuer ++ validity ++ subject ++ key ++ uniques ++ extensions list

-- a certificate with every optional field
abbrev everything : List ℕ
everything = fields (version ++ serial) subject (issuer_unique ++ subject_unique) (extensions_with (names mail directory))

abbrev full : List ℕ
full = signed everything

-- its bytes
bytes :
    full
    ≡ 48 ∷ 129 ∷ 224 ∷ 48 ∷ 129 ∷ 209 ∷ 160 ∷ 3 ∷ 2 ∷ 1 ∷ 2 ∷ 2 ∷ 1 ∷ 5 ∷ 48 ∷ 6 ∷ 6 ∷ 2 ∷ 42 ∷ 3 ∷ 5 ∷ 0 ∷ 48 ∷ 4 ∷ 1 ∷ 0 ∷ 130 ∷ 0 ∷ 48 ∷ 6 ∷ 23 ∷ 1 ∷ 97 ∷ 24 ∷ 1 ∷ 98 ∷ 48 ∷ 49 ∷ 49 ∷ 22 ∷ 48 ∷ 10 ∷ 6 ∷ 3 ∷ 85 ∷ 4 ∷ 3 ∷ 12 ∷ 3 ∷ 111 ∷ 110 ∷ 101 ∷ 48 ∷ 8 ∷ 6 ∷ 3 ∷ 85 ∷ 4 ∷ 10 ∷ 12 ∷ 1 ∷ 111 ∷ 49 ∷ 23 ∷ 48 ∷ 8 ∷ 6 ∷ 3 ∷ 85 ∷ 4 ∷ 10 ∷ 12 ∷ 1 ∷ 111 ∷ 48 ∷ 11 ∷ 6 ∷ 3 ∷ 85 ∷ 4 ∷ 3 ∷ 19 ∷ 4 ∷ 108 ∷ 97 ∷ 115 ∷ 116 ∷ 48 ∷ 9 ∷ 48 ∷ 3 ∷ 6 ∷ 1 ∷ 42 ∷ 3 ∷ 2 ∷ 0 ∷ 4 ∷ 129 ∷ 2 ∷ 0 ∷ 1 ∷ 130 ∷ 2 ∷ 0 ∷ 2 ∷ 163 ∷ 107 ∷ 48 ∷ 105 ∷ 48 ∷ 11 ∷ 6 ∷ 3 ∷ 85 ∷ 29 ∷ 15 ∷ 1 ∷ 1 ∷ 255 ∷ 4 ∷ 1 ∷ 255 ∷ 48 ∷ 79 ∷ 6 ∷ 3 ∷ 85 ∷ 29 ∷ 17 ∷ 1 ∷ 1 ∷ 255 ∷ 4 ∷ 69 ∷ 48 ∷ 67 ∷ 160 ∷ 8 ∷ 6 ∷ 1 ∷ 42 ∷ 160 ∷ 3 ∷ 12 ∷ 1 ∷ 120 ∷ 129 ∷ 3 ∷ 109 ∷ 64 ∷ 120 ∷ 130 ∷ 3 ∷ 97 ∷ 46 ∷ 98 ∷ 163 ∷ 4 ∷ 5 ∷ 0 ∷ 48 ∷ 0 ∷ 164 ∷ 6 ∷ 48 ∷ 4 ∷ 5 ∷ 0 ∷ 5 ∷ 0 ∷ 165 ∷ 7 ∷ 161 ∷ 3 ∷ 12 ∷ 1 ∷ 112 ∷ 160 ∷ 0 ∷ 134 ∷ 3 ∷ 117 ∷ 58 ∷ 120 ∷ 135 ∷ 4 ∷ 10 ∷ 0 ∷ 0 ∷ 1 ∷ 136 ∷ 1 ∷ 42 ∷ 130 ∷ 5 ∷ 99 ∷ 46 ∷ 100 ∷ 46 ∷ 101 ∷ 134 ∷ 1 ∷ 118 ∷ 48 ∷ 9 ∷ 6 ∷ 3 ∷ 85 ∷ 29 ∷ 14 ∷ 4 ∷ 2 ∷ 4 ∷ 200 ∷ 48 ∷ 6 ∷ 6 ∷ 2 ∷ 42 ∷ 3 ∷ 5 ∷ 0 ∷ 3 ∷ 2 ∷ 0 ∷ 1 ∷ []
bytes = refl

-- it is read: its key at 87, the last of its two common names at 83, and both of its DNS-IDs
read : read_certificate full 32 ≡ record { number = 15; length = 32; offset = 0; key_start = 87; key_length = 11; dns_id_count = 2; common_name_given = 1; common_name_start = 83; common_name_length = 4 }
unfolding agree same_byte value_of long_size short_size headed header is_constructed with_head elements_from elements Der.and_then Der.run_from Der.walk_run Der.walk_contents Der.opened Der.walk_element is_of tagged holds or_else noting string_name built_name expects may_end noted and_then at_end run_from walk_run passing leaving walk_in walk_met opened walk_element walk_certificate whole_of contents_of whole_at contents_at name_at alternatives_at found_at fields_by fields_of dns_names dns_ids_from dns_ids_of each_as reading_of read_leaf accepted answer_of read_certificate
read = refl

-- the places of its DNS-IDs, at 154 and 196, and two bytes after them as they were
places :
    wrote_places full (replicate 34 7)
    ≡ 0 ∷ 0 ∷ 0 ∷ 0 ∷ 0 ∷ 0 ∷ 0 ∷ 154 ∷ 0 ∷ 0 ∷ 0 ∷ 0 ∷ 0 ∷ 0 ∷ 0 ∷ 3 ∷ 0 ∷ 0 ∷ 0 ∷ 0 ∷ 0 ∷ 0 ∷ 0 ∷ 196 ∷ 0 ∷ 0 ∷ 0 ∷ 0 ∷ 0 ∷ 0 ∷ 0 ∷ 5 ∷ 7 ∷ 7 ∷ []
unfolding agree same_byte value_of long_size short_size headed header is_constructed with_head elements_from elements Der.and_then Der.run_from Der.walk_run Der.walk_contents Der.opened Der.walk_element is_of tagged holds or_else noting string_name built_name expects may_end noted and_then at_end run_from walk_run passing leaving walk_in walk_met opened walk_element walk_certificate whole_of contents_of whole_at contents_at name_at alternatives_at found_at fields_by fields_of dns_names dns_ids_from dns_ids_of each_as reading_of read_leaf eight sixteen wrote_front wrote_as wrote_places
places = refl

-- the answers that refuse
abbrev refused : ℕ → ℕ → CertificateAnswer
refused number offset = record { number = number; length = 0; offset = offset; key_start = 0; key_length = 0; dns_id_count = 0; common_name_given = 0; common_name_start = 0; common_name_length = 0 }

abbrev fault : ℕ → CertificateAnswer
fault offset = refused 90 offset

-- a byte less than the room that it needs: 83
short : read_certificate full 31 ≡ refused 83 0
unfolding agree same_byte value_of long_size short_size headed header is_constructed with_head elements_from elements Der.and_then Der.run_from Der.walk_run Der.walk_contents Der.opened Der.walk_element is_of tagged holds or_else noting string_name built_name expects may_end noted and_then at_end run_from walk_run passing leaving walk_in walk_met opened walk_element walk_certificate whole_of contents_of whole_at contents_at name_at alternatives_at found_at fields_by fields_of dns_names dns_ids_from dns_ids_of each_as reading_of read_leaf accepted answer_of read_certificate
short = refl

-- where its elements stand whose tag is asked for
abbrev tags : List ℕ
tags = 0 ∷ 3 ∷ 6 ∷ 8 ∷ 11 ∷ 14 ∷ 22 ∷ 28 ∷ 36 ∷ 38 ∷ 40 ∷ 42 ∷ 52 ∷ 54 ∷ 62 ∷ 64 ∷ 66 ∷ 74 ∷ 76 ∷ 87 ∷ 98 ∷ 102 ∷ 106 ∷ 108 ∷ 110 ∷ 112 ∷ 117 ∷ 120 ∷ 123 ∷ 125 ∷ 130 ∷ 133 ∷ 135 ∷ 137 ∷ 147 ∷ 152 ∷ 157 ∷ 163 ∷ 165 ∷ 171 ∷ 180 ∷ 185 ∷ 191 ∷ 194 ∷ 201 ∷ 204 ∷ 206 ∷ 211 ∷ 215 ∷ 223 ∷ []

-- with another tag, that of NULL, each of them is misplaced where it stands
other_tag : map (λ (at : ℕ). read_certificate (set full at 5) 1024) tags ≡ map fault tags
unfolding agree same_byte value_of long_size short_size headed header is_constructed with_head elements_from elements Der.and_then Der.run_from Der.walk_run Der.walk_contents Der.opened Der.walk_element is_of tagged holds or_else noting string_name built_name expects may_end noted and_then at_end run_from walk_run passing leaving walk_in walk_met opened walk_element walk_certificate whole_of contents_of whole_at contents_at name_at alternatives_at found_at fields_by fields_of dns_names dns_ids_from dns_ids_of each_as reading_of read_leaf accepted answer_of read_certificate
other_tag = refl

-- the bytes of a case, and the answer that they are to have
record Case : Type 0 where
  bytes : List ℕ
  answer : CertificateAnswer

abbrev gives : List ℕ → CertificateAnswer → Case
gives s a = record { bytes = s; answer = a }

-- the certificate with another version and serial number, another subject, other unique identifiers, other extensions and other names
abbrev with_numbers : List ℕ → List ℕ
with_numbers numbers = signed (fields numbers subject (issuer_unique ++ subject_unique) (extensions_with (names mail directory)))

abbrev with_subject : List ℕ → List ℕ
with_subject other = signed (fields (version ++ serial) other (issuer_unique ++ subject_unique) (extensions_with (names mail directory)))

abbrev with_uniques : List ℕ → List ℕ
with_uniques uniques = signed (fields (version ++ serial) subject uniques (extensions_with (names mail directory)))

abbrev with_extensions : List ℕ → List ℕ
with_extensions list = signed (fields (version ++ serial) subject (issuer_unique ++ subject_unique) list)

abbrev with_names : List ℕ → List ℕ → List ℕ
with_names second fifth = with_extensions (extensions_with (names second fifth))

-- what stands before the key in TBSCertificate
abbrev beginning : List ℕ
beginning = version ++ serial ++ algorithm ++ issuer ++ validity ++ subject

-- a byte after it, a byte less of it, and no byte
abbrev ends : List Case
ends =
    gives (full ++ (0 ∷ [])) (fault 227)
    ∷ gives (take 226 full) (fault 0)
    ∷ gives [] (fault 0)
    ∷ []

-- no signature, and an element after it
abbrev signatures : List Case
signatures =
    gives (signed_by [] everything) (fault 223)
    ∷ gives (signed_by (signature ++ null) everything) (fault 227)
    ∷ []

-- a version of two elements, a version of none, no serial number, and two versions
abbrev numbers : List Case
numbers =
    gives (with_numbers (element 160 (element 2 (2 ∷ []) ++ element 2 (3 ∷ [])) ++ serial)) (fault 11)
    ∷ gives (with_numbers (element 160 [] ++ serial)) (fault 8)
    ∷ gives (with_numbers version) (fault 11)
    ∷ gives (with_numbers (version ++ version ++ serial)) (fault 11)
    ∷ []

-- a SEQUENCE where a SET should stand; a third element in the attribute of a common name, and in another; no value in either; and no type
abbrev subjects : List Case
subjects =
    gives (with_subject (sequence (sequence (common (element 12 (text "one")) ++ organization) ++ element 49 (organization ++ common (element 19 (text "last")))))) (fault 38)
    ∷ gives (with_subject (sequence (element 49 (common (element 12 (text "one")) ++ organization) ++ element 49 (organization ++ common (element 19 (text "last") ++ null))))) (fault 87)
    ∷ gives (with_subject (sequence (element 49 (attribute (85 ∷ 4 ∷ 10 ∷ []) (element 12 (text "o") ++ null)) ++ element 49 (organization ++ common (element 19 (text "last")))))) (fault 50)
    ∷ gives (with_subject (sequence (element 49 (common []) ++ element 49 (organization ++ common (element 19 (text "last")))))) (fault 47)
    ∷ gives (with_subject (sequence (element 49 (attribute (85 ∷ 4 ∷ 10 ∷ []) []) ++ element 49 (organization ++ common (element 19 (text "last")))))) (fault 47)
    ∷ gives (with_subject (sequence (element 49 blank ++ element 49 (organization ++ common (element 19 (text "last")))))) (fault 42)
    ∷ []

-- the unique identifiers in the other order, and each of them twice
abbrev uniques : List Case
uniques =
    gives (with_uniques (subject_unique ++ issuer_unique)) (fault 102)
    ∷ gives (with_uniques (issuer_unique ++ issuer_unique ++ subject_unique)) (fault 102)
    ∷ gives (with_uniques (issuer_unique ++ subject_unique ++ subject_unique)) (fault 106)
    ∷ gives (with_uniques (subject_unique ++ subject_unique)) (fault 102)
    ∷ []

-- a second subjectAltName; one that has no value; and one after another extension
abbrev seconds : List Case
seconds =
    gives (with_extensions (usage ++ alt_name (names mail directory) ++ extension (85 ∷ 29 ∷ 17 ∷ []) (element 4 blank))) (fault 204)
    ∷ gives (with_extensions (usage ++ alt_name (names mail directory) ++ extension (85 ∷ 29 ∷ 17 ∷ []) [])) (fault 204)
    ∷ gives (with_extensions (usage ++ alt_name (names mail directory) ++ key_identifier ++ extension (85 ∷ 29 ∷ 17 ∷ []) (element 4 blank))) (fault 215)
    ∷ []

-- a keyUsage, and then a subjectAltName, without a value, with critical alone, and with critical twice
abbrev values : List Case
values =
    gives (with_extensions (extension (85 ∷ 29 ∷ 15 ∷ []) [])) (fault 115)
    ∷ gives (with_extensions (extension (85 ∷ 29 ∷ 15 ∷ []) (critical))) (fault 119)
    ∷ gives (with_extensions (extension (85 ∷ 29 ∷ 15 ∷ []) (critical ++ critical ++ element 4 (255 ∷ [])))) (fault 119)
    ∷ gives (with_extensions (extension (85 ∷ 29 ∷ 17 ∷ []) [])) (fault 115)
    ∷ gives (with_extensions (extension (85 ∷ 29 ∷ 17 ∷ []) (critical))) (fault 119)
    ∷ gives (with_extensions (extension (85 ∷ 29 ∷ 17 ∷ []) (critical ++ critical ++ element 4 blank))) (fault 119)
    ∷ []

-- an element that is no extension in the list of them, after each unique identifier and after none
abbrev lists : List Case
lists =
    gives (signed (beginning ++ key ++ extensions null)) (fault 100)
    ∷ gives (signed (beginning ++ key ++ issuer_unique ++ extensions null)) (fault 104)
    ∷ gives (signed (beginning ++ key ++ subject_unique ++ extensions null)) (fault 104)
    ∷ []

-- nothing in an extension, no list of extensions, no GeneralNames in the string, and an element after them
abbrev missing : List Case
missing =
    gives (with_extensions blank) (fault 110)
    ∷ gives (signed (beginning ++ key ++ element 163 [])) (fault 98)
    ∷ gives (with_extensions (extensions_with [])) (fault 135)
    ∷ gives (with_extensions (extensions_with (blank ++ null))) (fault 137)
    ∷ []

-- a directoryName with a primitive tag, an rfc822Name with a constructed one, a directoryName of no element, and one of two
abbrev kinds : List Case
kinds =
    gives (with_names (element 132 (text "m@x")) directory) (fault 147)
    ∷ gives (with_names (element 161 (text "m@x")) directory) (fault 147)
    ∷ gives (with_names mail (element 164 [])) (fault 165)
    ∷ gives (with_names mail (element 164 (blank ++ blank))) (fault 167)
    ∷ []

-- a certificate without the optional fields, by its issuer, and its answer, by where the key stands
abbrev plain : List ℕ → List ℕ
plain issuer = signed (serial ++ algorithm ++ issuer ++ validity ++ blank ++ key)

abbrev key_at : ℕ → CertificateAnswer
key_at start = record { number = 15; length = 0; offset = 0; key_start = start; key_length = 11; dns_id_count = 0; common_name_given = 2; common_name_start = 0; common_name_length = 0 }

-- nothing optional; a length of 128 in the long form; one of 127 in it, and one of 128 with a zero in front; an indefinite length; a tag of two bytes; and an element that overruns its holder
abbrev headers : List Case
headers =
    gives (plain blank) (key_at 27)
    ∷ gives (plain (48 ∷ 129 ∷ 128 ∷ 4 ∷ 126 ∷ replicate 126 0)) (key_at 158)
    ∷ gives (plain (48 ∷ 129 ∷ 127 ∷ 4 ∷ 125 ∷ replicate 125 0)) (fault 17)
    ∷ gives (plain (48 ∷ 130 ∷ 0 ∷ 128 ∷ 4 ∷ 126 ∷ replicate 126 0)) (fault 17)
    ∷ gives (plain (48 ∷ 128 ∷ 0 ∷ 0 ∷ [])) (fault 15)
    ∷ gives (plain (sequence (31 ∷ 1 ∷ 0 ∷ []))) (fault 17)
    ∷ gives (plain (sequence (4 ∷ 2 ∷ 0 ∷ []))) (fault 17)
    ∷ []

-- SEQUENCEs in one another
abbrev nested : ℕ → List ℕ
nested zero = []
nested (suc n) = sequence (nested n)

-- the same certificate with a subjectAltName that is not critical
abbrev plain_names : List ℕ → List ℕ
plain_names list = signed (serial ++ algorithm ++ blank ++ validity ++ blank ++ key ++ extensions (extension (85 ∷ 29 ∷ 17 ∷ []) (element 4 (sequence list))))

-- 16 levels and 17: in the issuer, which is at level 3, and in an otherName, which is at level 8
abbrev depths : List Case
depths =
    gives (plain (sequence (nested 13))) (key_at 53)
    ∷ gives (plain (sequence (nested 14))) (fault 43)
    ∷ gives (plain_names (element 160 (nested 8))) (key_at 27)
    ∷ gives (plain_names (element 160 (nested 9))) (fault 71)
    ∷ []

-- DNS-IDs of no bytes
abbrev empties : ℕ → List ℕ
empties zero = []
empties (suc n) = element 130 [] ++ empties n

-- 64 DNS-IDs, and 65: 91
abbrev counts : List Case
counts =
    gives (plain_names (empties 64)) (record { number = 15; length = 1024; offset = 0; key_start = 29; key_length = 11; dns_id_count = 64; common_name_given = 2; common_name_start = 0; common_name_length = 0 })
    ∷ gives (plain_names (empties 65)) (refused 91 0)
    ∷ []

-- a subject without a common name, and elements that only X.690 binds
abbrev nameless : List ℕ
nameless = version ++ serial ++ algorithm ++ issuer ++ validity ++ sequence (element 49 organization) ++ key

abbrev odd : List ℕ
odd = sequence (element 130 [] ++ null ++ element 2 (1 ∷ []) ++ null)

-- no names; one unique identifier, or both, with extensions and without; no extension in their list; no name in GeneralNames; extensions after them; and other elements where anything may stand
abbrev options : List Case
options =
    gives (signed (nameless ++ issuer_unique ++ subject_unique ++ extensions usage)) (key_at 48)
    ∷ gives (signed (nameless ++ issuer_unique ++ subject_unique)) (key_at 48)
    ∷ gives (signed (nameless ++ issuer_unique ++ extensions usage)) (key_at 48)
    ∷ gives (signed (nameless ++ issuer_unique)) (key_at 48)
    ∷ gives (signed (nameless ++ subject_unique ++ extensions usage)) (key_at 48)
    ∷ gives (signed (nameless ++ subject_unique)) (key_at 48)
    ∷ gives (signed (nameless ++ extensions [])) (key_at 48)
    ∷ gives (signed (serial ++ algorithm ++ blank ++ validity ++ blank ++ key ++ extensions (alt_name blank ++ key_identifier))) (key_at 27)
    ∷ gives (signed (serial ++ algorithm ++ blank ++ validity ++ blank ++ key ++ extensions (alt_name blank ++ key_identifier ++ usage ++ key_identifier))) (key_at 27)
    ∷ gives (sequence (sequence (serial ++ odd ++ odd ++ odd ++ blank ++ odd) ++ odd ++ signature)) (key_at 42)
    ∷ []

-- a TBSCertificate that ends before its public key info, and a certificate that ends before its signature's algorithm
abbrev early : List Case
early =
    gives (signed []) (fault 4)
    ∷ gives (signed version) (fault 9)
    ∷ gives (signed (version ++ serial)) (fault 12)
    ∷ gives (signed (version ++ serial ++ algorithm)) (fault 20)
    ∷ gives (signed (version ++ serial ++ algorithm ++ issuer)) (fault 26)
    ∷ gives (signed (version ++ serial ++ algorithm ++ issuer ++ validity)) (fault 34)
    ∷ gives (signed (version ++ serial ++ algorithm ++ issuer ++ validity ++ subject)) (fault 85)
    ∷ gives (sequence (sequence everything)) (fault 215)
    ∷ gives (sequence []) (fault 2)
    ∷ []

abbrev cases : List Case
cases = ends ++ signatures ++ numbers ++ subjects ++ uniques ++ seconds ++ values ++ lists ++ missing ++ kinds ++ headers ++ depths ++ counts ++ options ++ early

-- each case has its answer, where there is room
all_answered : map (λ (c : Case). read_certificate c.bytes 1024) cases ≡ map (λ (c : Case). c.answer) cases
unfolding agree same_byte value_of long_size short_size headed header is_constructed with_head elements_from elements Der.and_then Der.run_from Der.walk_run Der.walk_contents Der.opened Der.walk_element is_of tagged holds or_else noting string_name built_name expects may_end noted and_then at_end run_from walk_run passing leaving walk_in walk_met opened walk_element walk_certificate whole_of contents_of whole_at contents_at name_at alternatives_at found_at fields_by fields_of dns_names dns_ids_from dns_ids_of each_as reading_of read_leaf accepted answer_of read_certificate
all_answered = refl

-- the certificates with an element after the last field of something, and where it begins: in version, attributes, extensions, TBSCertificate, an extension, a subjectAltName, directoryName and Certificate
record Last : Type 0 where
  with : List ℕ → List ℕ
  offset : ℕ

abbrev last : (List ℕ → List ℕ) → ℕ → Last
last f n = record { with = f; offset = n }

abbrev lasts : List Last
lasts =
    last (λ (x : List ℕ). with_numbers (element 160 (element 2 (2 ∷ []) ++ x) ++ serial)) 11
    ∷ last (λ (x : List ℕ). with_subject (sequence (element 49 (common (element 12 (text "one") ++ x))))) 52
    ∷ last (λ (x : List ℕ). with_subject (sequence (element 49 (attribute (85 ∷ 4 ∷ 10 ∷ []) (element 12 (text "o") ++ x))))) 50
    ∷ last (λ (x : List ℕ). signed (beginning ++ key ++ element 163 (sequence usage ++ x))) 113
    ∷ last (λ (x : List ℕ). signed (beginning ++ key ++ issuer_unique ++ element 163 (sequence usage ++ x))) 118
    ∷ last (λ (x : List ℕ). signed (beginning ++ key ++ extensions usage ++ x)) 113
    ∷ last (λ (x : List ℕ). signed (beginning ++ key ++ subject_unique ++ extensions usage ++ x)) 118
    ∷ last (λ (x : List ℕ). signed (beginning ++ key ++ issuer_unique ++ extensions usage ++ x)) 118
    ∷ last (λ (x : List ℕ). with_extensions (extension (85 ∷ 29 ∷ 15 ∷ []) (critical ++ element 4 [] ++ x))) 121
    ∷ last (λ (x : List ℕ). with_extensions (extension (85 ∷ 29 ∷ 15 ∷ []) (element 4 [] ++ x))) 118
    ∷ last (λ (x : List ℕ). with_extensions (extension (85 ∷ 29 ∷ 17 ∷ []) (critical ++ element 4 blank ++ x))) 123
    ∷ last (λ (x : List ℕ). with_extensions (extension (85 ∷ 29 ∷ 17 ∷ []) (element 4 blank ++ x))) 120
    ∷ last (λ (x : List ℕ). with_extensions (extensions_with (blank ++ x))) 137
    ∷ last (λ (x : List ℕ). with_names mail (element 164 (blank ++ x))) 167
    ∷ last (λ (x : List ℕ). signed_by (signature ++ x) everything) 227
    ∷ last (λ (x : List ℕ). full ++ x) 227
    ∷ []

-- after it no element may stand: one with any of five tags is misplaced there
after_last : map (λ (tag : ℕ). map (λ (p : Last). read_certificate (p.with (element tag [])) 1024) lasts) (5 ∷ 48 ∷ 49 ∷ 130 ∷ 163 ∷ []) ≡ replicate 5 (map (λ (p : Last). fault p.offset) lasts)
unfolding agree same_byte value_of long_size short_size headed header is_constructed with_head elements_from elements Der.and_then Der.run_from Der.walk_run Der.walk_contents Der.opened Der.walk_element is_of tagged holds or_else noting string_name built_name expects may_end noted and_then at_end run_from walk_run passing leaving walk_in walk_met opened walk_element walk_certificate whole_of contents_of whole_at contents_at name_at alternatives_at found_at fields_by fields_of dns_names dns_ids_from dns_ids_of each_as reading_of read_leaf accepted answer_of read_certificate
after_last = refl
