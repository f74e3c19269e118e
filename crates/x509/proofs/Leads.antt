-- RFC 5280's fields: where the key and the GeneralNames are noted, and from which places the key is still to come. Assumes nothing.
use Rattle.std.specs.Prelude.{Option, None, Some}
use Prim.Native.Nat.{ℕ}
use mathlib.Core.Path.{◌≡◌, refl, sym, ap, ◌∙◌}
use mathlib.Core.Bool.{Bool, true, false, cond, ◌||◌}
use mathlib.Core.List.{List}
use borrow.Author.Tests.{eqb-true}
use lib.Dec.{eqb}
use Rattle.lists.proofs.Bools.{never, apart}
use Rattle.x509.specs.declared.Place.{Place}
use Rattle.x509.specs.declared.Note.{Note}
use Rattle.x509.specs.declared.Field.{Field}
use Rattle.x509.specs.Fields.{sequence, anything, tagged, holds, or_else, noting, string_name, built_name, expects, may_end}

-- the key and the GeneralNames are noted where a SEQUENCE stands
unfoldable pub loose : Note → Bool
loose Note.Nothing = true
loose Note.KeyInfo = false
loose Note.NameValue = true
loose Note.Alternatives = false

unfoldable pub Noting : ℕ → Option Field → Type 0
Noting tag e = (f : Field) → e ≡ Some f → loose f.note ≡ false → tag ≡ 48

noting_tagged : (wanted : ℕ) (after : Place) (tag : ℕ) → Noting tag (tagged wanted after tag)
unfolding Noting tagged loose
noting_tagged wanted after tag = go (eqb tag wanted)
  where
    go : (b : Bool) (f : Field) → cond b (anything after) None ≡ Some f → loose f.note ≡ false → tag ≡ 48
    go true f e i = let q : record { note = Note.Nothing; inside = None; after = after } ≡ f = cc in apart (sym i ∙ ap (λ (x : Field). loose x.note) (sym q))
    go false f e i = never cc

noting_holds : (wanted : ℕ) (inside after : Place) (tag : ℕ) → Noting tag (holds wanted inside after tag)
unfolding Noting holds loose
noting_holds wanted inside after tag = go (eqb tag wanted)
  where
    go : (b : Bool) (f : Field) → cond b (Some (record { note = Note.Nothing; inside = Some inside; after = after })) None ≡ Some f → loose f.note ≡ false → tag ≡ 48
    go true f e i = let q : record { note = Note.Nothing; inside = Some inside; after = after } ≡ f = cc in apart (sym i ∙ ap (λ (x : Field). loose x.note) (sym q))
    go false f e i = never cc

noting_any : (after : Place) (tag : ℕ) → Noting tag (anything after)
unfolding Noting loose
noting_any after tag f e i = let q : record { note = Note.Nothing; inside = None; after = after } ≡ f = cc in apart (sym i ∙ ap (λ (x : Field). loose x.note) (sym q))

noting_name : (after : Place) (tag : ℕ) → Noting tag (noting Note.NameValue (anything after))
unfolding Noting loose noting
noting_name after tag f e i = let q : record { note = Note.NameValue; inside = None; after = after } ≡ f = cc in apart (sym i ∙ ap (λ (x : Field). loose x.note) (sym q))

noting_none : (tag : ℕ) → Noting tag None
unfolding Noting
noting_none tag f e i = never cc

noting_else : (tag : ℕ) (a b : Option Field) → Noting tag a → Noting tag b → Noting tag (or_else a b)
unfolding or_else
noting_else tag (Some g) b x y = x
noting_else tag None b x y = y

noting_cond : (tag : ℕ) (t : Bool) (a b : Option Field) → Noting tag a → Noting tag b → Noting tag (cond t a b)
noting_cond tag true a b x y = x
noting_cond tag false a b x y = y

noting_sequence : (note : Note) (inside : Option Place) (after : Place) (tag : ℕ) → Noting tag (noting note (cond (eqb tag 48) (Some (record { note = Note.Nothing; inside = inside; after = after })) None))
unfolding Noting noting
noting_sequence note inside after tag = go (eqb tag 48) refl
  where
    go : (b : Bool) → eqb tag 48 ≡ b → (f : Field) → noting note (cond b (Some (record { note = Note.Nothing; inside = inside; after = after })) None) ≡ Some f → loose f.note ≡ false → tag ≡ 48
    go true q f e i = eqb-true tag 48 q
    go false q f e i = never cc

noting_key : (after : Place) (tag : ℕ) → Noting tag (noting Note.KeyInfo (tagged sequence after tag))
unfolding tagged
noting_key after tag = noting_sequence Note.KeyInfo None after tag

noting_alternatives : (inside after : Place) (tag : ℕ) → Noting tag (noting Note.Alternatives (holds sequence inside after tag))
unfolding holds
noting_alternatives inside after tag = noting_sequence Note.Alternatives (Some inside) after tag

ruleset noting_laws = (noting_tagged, noting_holds, noting_any, noting_name, noting_none, noting_else, noting_cond, noting_key, noting_alternatives)

noting_string_name : (tag : ℕ) → Noting tag (string_name tag)
unfolding string_name
noting_string_name tag = search noting_laws

noting_built_name : (tag : ℕ) → Noting tag (built_name tag)
unfolding built_name
noting_built_name tag = search noting_laws

pub note_tag : (p : Place) (tag : ℕ) (c : List ℕ) → Noting tag (expects p tag c)
unfolding expects
note_tag Place.Certificate tag c = search noting_laws
note_tag Place.TbsCertificate tag c = search noting_laws
note_tag Place.SignatureAlgorithm tag c = search noting_laws
note_tag Place.SignatureValue tag c = search noting_laws
note_tag Place.Version tag c = search noting_laws
note_tag Place.VersionNumber tag c = search noting_laws
note_tag Place.SerialNumber tag c = search noting_laws
note_tag Place.Signature tag c = search noting_laws
note_tag Place.Issuer tag c = search noting_laws
note_tag Place.Validity tag c = search noting_laws
note_tag Place.Subject tag c = search noting_laws
note_tag Place.RelativeDistinguishedName tag c = search noting_laws
note_tag Place.AttributeTypeAndValue tag c = search noting_laws
note_tag Place.AttributeType tag c = search noting_laws
note_tag Place.AttributeValue tag c = search noting_laws
note_tag Place.CommonNameType tag c = search noting_laws
note_tag Place.CommonName tag c = search noting_laws
note_tag Place.SubjectPublicKeyInfo tag c = search noting_laws
note_tag Place.IssuerUniqueId tag c = search noting_laws
note_tag Place.SubjectUniqueId tag c = search noting_laws
note_tag Place.Extensions tag c = search noting_laws
note_tag Place.ExtensionList tag c = search noting_laws
note_tag Place.Extension tag c = search noting_laws
note_tag Place.OtherExtension tag c = search noting_laws
note_tag Place.ExtnId tag c = search noting_laws
note_tag Place.Critical tag c = search noting_laws
note_tag Place.ExtnValue tag c = search noting_laws
note_tag Place.AltNameId tag c = search noting_laws
note_tag Place.AltNameCritical tag c = search noting_laws
note_tag Place.AltNameValue tag c = search noting_laws
note_tag Place.AltNames tag c = search noting_laws
note_tag Place.GeneralName tag c = noting_else tag (string_name tag) (built_name tag) (noting_string_name tag) (noting_built_name tag)
note_tag Place.DirectoryName tag c = search noting_laws
note_tag Place.End tag c = search noting_laws

-- the places from which the public key info is still to come
unfoldable pub due : Place → Bool
due Place.Certificate = true
due Place.TbsCertificate = true
due Place.SignatureAlgorithm = false
due Place.SignatureValue = false
due Place.Version = true
due Place.VersionNumber = false
due Place.SerialNumber = true
due Place.Signature = true
due Place.Issuer = true
due Place.Validity = true
due Place.Subject = true
due Place.RelativeDistinguishedName = false
due Place.AttributeTypeAndValue = false
due Place.AttributeType = false
due Place.AttributeValue = false
due Place.CommonNameType = false
due Place.CommonName = false
due Place.SubjectPublicKeyInfo = true
due Place.IssuerUniqueId = false
due Place.SubjectUniqueId = false
due Place.Extensions = false
due Place.ExtensionList = false
due Place.Extension = false
due Place.OtherExtension = false
due Place.ExtnId = false
due Place.Critical = false
due Place.ExtnValue = false
due Place.AltNameId = false
due Place.AltNameCritical = false
due Place.AltNameValue = false
due Place.AltNames = false
due Place.GeneralName = false
due Place.DirectoryName = false
due Place.End = false

-- where it is still to come the fields may not end
pub due_on : (p : Place) → may_end p ≡ true → due p ≡ false
unfolding due may_end
due_on Place.Certificate e = apart e
due_on Place.TbsCertificate e = apart e
due_on Place.SignatureAlgorithm e = apart e
due_on Place.SignatureValue e = apart e
due_on Place.Version e = apart e
due_on Place.VersionNumber e = apart e
due_on Place.SerialNumber e = apart e
due_on Place.Signature e = apart e
due_on Place.Issuer e = apart e
due_on Place.Validity e = apart e
due_on Place.Subject e = apart e
due_on Place.RelativeDistinguishedName e = refl
due_on Place.AttributeTypeAndValue e = refl
due_on Place.AttributeType e = apart e
due_on Place.AttributeValue e = apart e
due_on Place.CommonNameType e = apart e
due_on Place.CommonName e = apart e
due_on Place.SubjectPublicKeyInfo e = apart e
due_on Place.IssuerUniqueId e = refl
due_on Place.SubjectUniqueId e = refl
due_on Place.Extensions e = refl
due_on Place.ExtensionList e = apart e
due_on Place.Extension e = refl
due_on Place.OtherExtension e = refl
due_on Place.ExtnId e = apart e
due_on Place.Critical e = apart e
due_on Place.ExtnValue e = apart e
due_on Place.AltNameId e = apart e
due_on Place.AltNameCritical e = apart e
due_on Place.AltNameValue e = apart e
due_on Place.AltNames e = apart e
due_on Place.GeneralName e = refl
due_on Place.DirectoryName e = apart e
due_on Place.End e = refl

-- a field after which, or in which, it is still to come, or which is it
unfoldable pub due_in : Option Place → Bool
due_in None = false
due_in (Some p) = due p

unfoldable pub is_key : Note → Bool
is_key Note.Nothing = false
is_key Note.KeyInfo = true
is_key Note.NameValue = false
is_key Note.Alternatives = false

unfoldable pub leads : Field → Bool
leads f = due f.after || (is_key f.note || due_in f.inside)

unfoldable pub Leading : Option Field → Type 0
Leading e = (f : Field) → e ≡ Some f → leads f ≡ true

leading_field : (g : Field) → leads g ≡ true → Leading (Some g)
unfolding Leading
leading_field g l f e = let q : g ≡ f = cc in rw q at l

leading_none : Leading None
unfolding Leading
leading_none f e = never cc

leading_cond : (b : Bool) (x y : Option Field) → Leading x → Leading y → Leading (cond b x y)
leading_cond true x y a c = a
leading_cond false x y a c = c

leading_else : (x y : Option Field) → Leading x → Leading y → Leading (or_else x y)
unfolding or_else
leading_else (Some g) y a c = a
leading_else None y a c = c

leading_tagged : (wanted : ℕ) (after : Place) (tag : ℕ) → due after ≡ true → Leading (tagged wanted after tag)
unfolding tagged leads
leading_tagged wanted after tag d =
    leading_cond (eqb tag wanted) (anything after) None (leading_field (record { note = Note.Nothing; inside = None; after = after }) (rw d)) leading_none

leading_holds : (wanted : ℕ) (inside after : Place) (tag : ℕ) → due after || due inside ≡ true → Leading (holds wanted inside after tag)
unfolding holds leads is_key due_in
leading_holds wanted inside after tag d =
    leading_cond (eqb tag wanted) (Some (record { note = Note.Nothing; inside = Some inside; after = after })) None
    (leading_field (record { note = Note.Nothing; inside = Some inside; after = after }) d) leading_none

leading_key : (tag : ℕ) → Leading (noting Note.KeyInfo (tagged sequence Place.IssuerUniqueId tag))
unfolding noting tagged leads due is_key
leading_key tag = go (eqb tag 48)
  where
    go : (b : Bool) → Leading (noting Note.KeyInfo (cond b (anything Place.IssuerUniqueId) None))
    go true = leading_field (record { note = Note.KeyInfo; inside = None; after = Place.IssuerUniqueId }) refl
    go false = leading_none

pub leading : (p : Place) → due p ≡ true → (tag : ℕ) (c : List ℕ) → Leading (expects p tag c)
unfolding expects due
leading Place.Certificate e tag c = leading_holds 48 Place.TbsCertificate Place.End tag refl
leading Place.TbsCertificate e tag c = leading_holds 48 Place.Version Place.SignatureAlgorithm tag refl
leading Place.SignatureAlgorithm e tag c = apart e
leading Place.SignatureValue e tag c = apart e
leading Place.Version e tag c = leading_else (holds 160 Place.VersionNumber Place.SerialNumber tag) (tagged 2 Place.Signature tag) (leading_holds 160 Place.VersionNumber Place.SerialNumber tag refl) (leading_tagged 2 Place.Signature tag refl)
leading Place.VersionNumber e tag c = apart e
leading Place.SerialNumber e tag c = leading_tagged 2 Place.Signature tag refl
leading Place.Signature e tag c = leading_tagged 48 Place.Issuer tag refl
leading Place.Issuer e tag c = leading_tagged 48 Place.Validity tag refl
leading Place.Validity e tag c = leading_tagged 48 Place.Subject tag refl
leading Place.Subject e tag c = leading_holds 48 Place.RelativeDistinguishedName Place.SubjectPublicKeyInfo tag refl
leading Place.RelativeDistinguishedName e tag c = apart e
leading Place.AttributeTypeAndValue e tag c = apart e
leading Place.AttributeType e tag c = apart e
leading Place.AttributeValue e tag c = apart e
leading Place.CommonNameType e tag c = apart e
leading Place.CommonName e tag c = apart e
leading Place.SubjectPublicKeyInfo e tag c = leading_key tag
leading Place.IssuerUniqueId e tag c = apart e
leading Place.SubjectUniqueId e tag c = apart e
leading Place.Extensions e tag c = apart e
leading Place.ExtensionList e tag c = apart e
leading Place.Extension e tag c = apart e
leading Place.OtherExtension e tag c = apart e
leading Place.ExtnId e tag c = apart e
leading Place.Critical e tag c = apart e
leading Place.ExtnValue e tag c = apart e
leading Place.AltNameId e tag c = apart e
leading Place.AltNameCritical e tag c = apart e
leading Place.AltNameValue e tag c = apart e
leading Place.AltNames e tag c = apart e
leading Place.GeneralName e tag c = apart e
leading Place.DirectoryName e tag c = apart e
leading Place.End e tag c = apart e

pub leading_is : (p : Place) → due p ≡ true → (tag : ℕ) (c : List ℕ) (f : Field) → expects p tag c ≡ Some f → due f.after || (is_key f.note || due_in f.inside) ≡ true
unfolding Leading leads
leading_is p d tag c = leading p d tag c

pub tag_of : (p : Place) (tag : ℕ) (c : List ℕ) (f : Field) → expects p tag c ≡ Some f → loose f.note ≡ false → tag ≡ 48
unfolding Noting
tag_of p tag c = note_tag p tag c
