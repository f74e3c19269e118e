-- The ways out of the functions that see the usual shape of a certificate. Assumes nothing.
use Rattle.std.specs.Prelude.{Option, None, Some, Result, Ok, Err, IfSome, is_some}
use Rattle.std.specs.Result.{result_ok}
use Prim.Native.Nat.{ℕ, suc, ◌-◌, ◌<◌, ◌≤◌}
use mathlib.Core.Path.{◌≡◌, refl, sym, ap, subst, ◌∙◌}
use mathlib.Core.Bool.{Bool, true, false, cond}
use mathlib.Core.List.{List}
use native.Mathlib.Omega.{arith}
use borrow.Author.Rules.{rules}
use borrow.Author.Tests.{eq-eqb, ne_eqb, eqb-true, not-true, not-false}
use lib.Dec.{eqb}
use lib.ListN.{length, take, drop}
use lib.Seq.{take_all}
use Rattle.lists.proofs.Bools.{apart, never}
use Rattle.der.specs.declared.Head.{Head}
use Rattle.der.specs.declared.Fault.{Fault}
use Rattle.der.specs.Header.{header, is_constructed}
use Rattle.der.specs.Walk as Der
use Rattle.der.proofs.Heads.{opens_bounds, end_inside}
use Rattle.der.proofs.Walks.{contents_end}
use Rattle.x509.specs.declared.Place.{Place}
use Rattle.x509.specs.declared.Note.{Note}
use Rattle.x509.specs.declared.Noted.{Noted}
use Rattle.usual.specs.declared.Seen.{Seen}
use Rattle.x509.specs.Fields as Table
use Rattle.x509.specs.Fields.{anything, holds, or_else, noting, string_name, is_of, common_name, subject_alt_name, expects, may_end}
use Rattle.x509.specs.Walk.{past, noted, at_end, walk_run, passing, leaving, walk_in, walk_met, opened, walk_element, none_noted}
use Rattle.usual.specs.Shape.{tagged_by, tagged, ends_at, alone, end_by, end_of, notes, Ends, Goes, FreeTo, ExtensionEnds, AttributeEnds, AttributeSeen, SetSeen, SubjectSeen, extension_place, ExtensionSeen, ExtensionsSeen, ListSeen, TailSeen, NamesEnd, AltNamesEnd, AltNameEnds, FreeSeen, VersionSeen, SerialSeen, MiddleSeen, SubjectOnSeen, TbsSeen, FieldsSeen, CertificateSeen}
use Rattle.x509.specs.declared.Found.{Found}
use Rattle.x509.specs.Found.{found_at, fields_of}
use Rattle.x509.proofs.Parts.{fields_are}
use Rattle.x509.proofs.Walks.{element_steps, run_over, run_goes}

-- the ways out of `tagged`, of `alone` and of `end_of`
module _ (s : List ℕ) (at tag : ℕ) where
  module _ (d : Option Head) (is_d : d ≡ header at (drop at s)) where
    pub tagged_none : d ≡ None → None ≡ tagged s at tag
    unfolding tagged tagged_by
    tagged_none e = cc

    module _ (h : Head) (opens : d ≡ Some h) where
      pub tagged_other : (h.tag ≡ tag → ⊥) → None ≡ tagged s at tag
      unfolding tagged tagged_by
      tagged_other e = cc (ne_eqb h.tag tag e)

      pub tagged_is : h.tag ≡ tag → Some h ≡ tagged s at tag
      unfolding tagged tagged_by
      tagged_is e = cc (eq-eqb h.tag tag e)

  module _ (d : Option Head) (is_d : d ≡ tagged s at tag) where
    pub alone_none : d ≡ None → None ≡ alone s at tag
    unfolding alone ends_at
    alone_none e = cc

    pub end_none : d ≡ None → None ≡ end_of s at tag
    unfolding end_of end_by
    end_none e = cc

    module _ (h : Head) (opens : d ≡ Some h) where
      pub alone_more : (h.end ≡ length s → ⊥) → None ≡ alone s at tag
      unfolding alone ends_at
      alone_more e = cc (ne_eqb h.end (length s) e)

      pub alone_is : h.end ≡ length s → Some h ≡ alone s at tag
      unfolding alone ends_at
      alone_is e = cc (eq-eqb h.end (length s) e)

      pub end_is : Some h.end ≡ end_of s at tag
      unfolding end_of end_by
      end_is = cc

pub ruleset end_laws = (tagged_none, tagged_other, tagged_is, alone_none, alone_more, alone_is, end_none, end_is, rules)

-- what is known of the element that was seen
by_tag : (tag : ℕ) (d : Option Head) (h : Head) → tagged_by tag d ≡ Some h → (d ≡ Some h) × (h.tag ≡ tag)
unfolding tagged_by
by_tag tag None h e = never cc
by_tag tag (Some k) h e = go (eqb k.tag tag) refl e
  where
    go : (b : Bool) → eqb k.tag tag ≡ b → cond b (Some k) None ≡ Some h → (Some k ≡ Some h) × (h.tag ≡ tag)
    go true q e = let z : k ≡ h = cc in (e, ap (λ (x : Head). x.tag) (sym z) ∙ eqb-true k.tag tag q)
    go false q e = never cc

by_end : (l : ℕ) (d : Option Head) (h : Head) → ends_at l d ≡ Some h → (d ≡ Some h) × (h.end ≡ l)
unfolding ends_at
by_end l None h e = never cc
by_end l (Some k) h e = go (eqb k.end l) refl e
  where
    go : (b : Bool) → eqb k.end l ≡ b → cond b (Some k) None ≡ Some h → (Some k ≡ Some h) × (h.end ≡ l)
    go true q e = let z : k ≡ h = cc in (e, ap (λ (x : Head). x.end) (sym z) ∙ eqb-true k.end l q)
    go false q e = never cc

of_end : {A : Type 0} (d : Option Head) (e : ℕ) → end_by d ≡ Some e → ((h : Head) → d ≡ Some h → h.end ≡ e → A) → A
unfolding end_by
of_end None e f k = never cc
of_end (Some h) e f k = k h refl cc

module _ (s : List ℕ) (at tag : ℕ) (h : Head) where
  tagged_opens : tagged s at tag ≡ Some h → header at (drop at s) ≡ Some h
  unfolding tagged
  tagged_opens e = (by_tag tag (header at (drop at s)) h e).0

  tagged_tag : tagged s at tag ≡ Some h → h.tag ≡ tag
  unfolding tagged
  tagged_tag e = (by_tag tag (header at (drop at s)) h e).1

  alone_tagged : alone s at tag ≡ Some h → tagged s at tag ≡ Some h
  unfolding alone
  alone_tagged e = (by_end (length s) (tagged s at tag) h e).0

  alone_ends : alone s at tag ≡ Some h → h.end ≡ length s
  unfolding alone
  alone_ends e = (by_end (length s) (tagged s at tag) h e).1

  alone_end_of : alone s at tag ≡ Some h → end_of s at tag ≡ Some h.end
  unfolding end_of end_by
  alone_end_of e = cc (alone_tagged e)

module _ (s : List ℕ) (at tag : ℕ) (d : Option Head) (h : Head) where
  pub header_inside : d ≡ tagged s at tag → d ≡ Some h → h.end ≤ length s
  header_inside e o = end_inside s at (Some h) h (sym (tagged_opens s at tag h (sym e ∙ o))) refl

  pub header_order : d ≡ tagged s at tag → d ≡ Some h → h.start ≤ h.end
  header_order e o = (opens_bounds at (drop at s) h (tagged_opens s at tag h (sym e ∙ o))).1.0

  pub alone_inside : d ≡ alone s at tag → d ≡ Some h → h.end ≤ length s
  alone_inside e o = omega (arith, alone_ends s at tag h (sym e ∙ o))

  pub alone_order : d ≡ alone s at tag → d ≡ Some h → h.start ≤ h.end
  alone_order e o = (opens_bounds at (drop at s) h (tagged_opens s at tag h (alone_tagged s at tag h (sym e ∙ o)))).1.0

further : (s : List ℕ) (at tag : ℕ) (h : Head) → tagged s at tag ≡ Some h → at < h.end
further s at tag h e = let b = opens_bounds at (drop at s) h (tagged_opens s at tag h e) in omega (arith, b.0, b.1.0)

starts_further : (s : List ℕ) (at tag : ℕ) (h : Head) → tagged s at tag ≡ Some h → 0 < h.start
starts_further s at tag h e = let b = opens_bounds at (drop at s) h (tagged_opens s at tag h e) in omega (arith, b.0)

if_some : {A : Type 0} (w : Option A) (P : A → Type 0) → IfSome w P → (x : A) → w ≡ Some x → P x
if_some None P f x e = never cc
if_some (Some y) P f x e = let z : y ≡ x = cc in subst P z f

-- a field in a run: the run goes on after it, where anything may stand in it and it passes, or where fields stand in it and their run passes
module _ (p after : Place) (note : Note) (levels : ℕ) (n : Noted) (s : List ℕ) (at : ℕ) (h : Head) (opens : header at (drop at s) ≡ Some h) where
  abbrev contents : List ℕ
  contents = take (h.end - h.start) (drop h.start s)

  goes_by : (m : Noted) → walk_element (suc levels) p n s at ≡ past h.end after m → Goes (suc levels) p n s at after m h.end
  goes_by m e =
      let b = opens_bounds at (drop at s) h opens in
      let l = end_inside s at (Some h) h (sym opens) refl in
      run_goes (walk_element (suc levels)) p n s at (omega (arith, b.0, b.1.0, l)) (element_steps (suc levels)) h.end after m e

  free_element : expects p h.tag contents ≡ Some (record { note = note; inside = None; after = after }) → (x : ℕ) → Der.walk_contents (Der.walk_run (Der.walk_element levels)) s h ≡ Ok x
      → walk_element (suc levels) p n s at ≡ past h.end after (noted note at n)
  unfolding walk_element opened walk_met walk_in passing
  free_element e x f = rw (opens, e, f)

  pub free_goes : expects p h.tag contents ≡ Some (record { note = note; inside = None; after = after }) → (x : ℕ) → Der.walk_contents (Der.walk_run (Der.walk_element levels)) s h ≡ Ok x
      → Goes (suc levels) p n s at after (noted note at n) h.end
  free_goes e x f = goes_by (noted note at n) (free_element e x f)

  module _ (inside : Place) (e : expects p h.tag contents ≡ Some (record { note = note; inside = Some inside; after = after })) (m : Noted) (f : Ends levels inside (noted note at n) (take h.end s) h.start m) where
    holds_element : walk_element (suc levels) p n s at ≡ past h.end after m
    unfolding walk_element opened walk_met walk_in leaving
    holds_element = rw (opens, e, f)

    pub holds_goes : Goes (suc levels) p n s at after m h.end
    holds_goes = goes_by m holds_element

-- a run ends at a place where nothing is missing
ends_here : (levels : ℕ) (p : Place) (n : Noted) (s : List ℕ) (e : ℕ) → may_end p ≡ true → length s ≤ e → Ends levels p n s e n
unfolding at_end
ends_here levels p n s e m f = run_over (walk_element levels) p n s e f ∙ rw m

-- the ways out of `free_end`
module _ (levels : ℕ) (s : List ℕ) (at tag : ℕ) where
  pub free_none : (r : Option ℕ) → r ≡ None → FreeSeen levels s at tag r
  unfolding FreeSeen
  free_none r e = rw e tt

  module _ (h : Head) (is_h : tagged s at tag ≡ Some h) where
    free_ends : (x : ℕ) → Der.walk_contents (Der.walk_run (Der.walk_element levels)) s h ≡ Ok x → x ≡ h.end
    free_ends x e = contents_end (Der.walk_element levels) s h (header_order s at tag (Some h) h (sym is_h) refl) (header_inside s at tag (Some h) h (sym is_h) refl) x e

    free_passed : (x : ℕ) → Der.walk_contents (Der.walk_run (Der.walk_element levels)) s h ≡ Ok x → FreeTo levels s at tag x
    unfolding FreeTo
    free_passed x f p after note n e =
        free_goes p after note levels n s at h (tagged_opens s at tag h is_h)
        (ap (λ (y : ℕ). expects p y (take (h.end - h.start) (drop h.start s))) (tagged_tag s at tag h is_h) ∙ e (take (h.end - h.start) (drop h.start s))) x f
        ∙ ap (λ (y : ℕ). walk_run (walk_element (suc levels)) after (noted note at n) s y) (sym (free_ends x f))

    free_walked : (w : Result ℕ Fault) → Der.walk_contents (Der.walk_run (Der.walk_element levels)) s h ≡ w → FreeSeen levels s at tag (result_ok w)
    unfolding FreeSeen
    free_walked (Ok x) e = free_passed x e
    free_walked (Err o) e = tt

  pub free_seen : (d : Option Head) → d ≡ tagged s at tag → (h : Head) → d ≡ Some h → (w : Result ℕ Fault) → w ≡ Der.walk_contents (Der.walk_run (Der.walk_element levels)) s h
      → (r : Option ℕ) → r ≡ result_ok w → FreeSeen levels s at tag r
  free_seen d is_d h opens w is_w r is_r = subst (λ (x : Option ℕ). FreeSeen levels s at tag x) (sym is_r) (free_walked h (sym is_d ∙ opens) w (sym is_w))

free_to : (levels : ℕ) (s : List ℕ) (at tag : ℕ) (w : Option ℕ) → FreeSeen levels s at tag w → (e : ℕ) → w ≡ Some e → FreeTo levels s at tag e
unfolding FreeSeen
free_to levels s at tag (Some x) f e q = let z : x ≡ e = cc in subst (λ (y : ℕ). FreeTo levels s at tag y) z f
free_to levels s at tag None f e q = never cc

pub ruleset free_laws = (free_seen, free_none, header_inside, rules)

-- a primitive element with a tag that is known, which ends at e
module _ (s : List ℕ) (at tag e : ℕ) where
  pub end_further : end_of s at tag ≡ Some e → at < e
  unfolding end_of
  end_further f = of_end (tagged s at tag) e f (λ h o z. omega (arith, further s at tag h o, z))

  primitive_passes : (levels : ℕ) (h : Head) → is_constructed h.tag ≡ false → Der.walk_contents (Der.walk_run (Der.walk_element levels)) s h ≡ Ok h.end
  unfolding Der.walk_contents
  primitive_passes levels h c = rw c

  pass_tag : (p after : Place) → end_of s at tag ≡ Some e → ((c : List ℕ) → expects p tag c ≡ anything after) → is_constructed tag ≡ false → (levels : ℕ) (n : Noted) → Goes (suc levels) p n s at after n e
  unfolding end_of noted
  pass_tag p after f x c levels n =
      of_end (tagged s at tag) e f (λ h o z.
      let t = tagged_tag s at tag h o in
      free_goes p after Note.Nothing levels n s at h (tagged_opens s at tag h o)
      (ap (λ (y : ℕ). expects p y (take (h.end - h.start) (drop h.start s))) t ∙ x (take (h.end - h.start) (drop h.start s))) h.end (primitive_passes levels h (ap is_constructed t ∙ c))
      ∙ ap (λ (y : ℕ). walk_run (walk_element (suc levels)) after n s y) z)

-- rows of the table
extn_id : (c : List ℕ) → expects Place.ExtnId 6 c ≡ anything Place.Critical
unfolding expects Table.tagged
extn_id c = refl

critical_given : (c : List ℕ) → expects Place.Critical 1 c ≡ anything Place.ExtnValue
unfolding expects Table.tagged or_else
critical_given c = refl

critical_none : (c : List ℕ) → expects Place.Critical 4 c ≡ anything Place.End
unfolding expects Table.tagged or_else
critical_none c = refl

extn_value : (c : List ℕ) → expects Place.ExtnValue 4 c ≡ anything Place.End
unfolding expects Table.tagged
extn_value c = refl

attribute_type : (c : List ℕ) → expects Place.AttributeType 6 c ≡ anything Place.AttributeValue
unfolding expects Table.tagged
attribute_type c = refl

common_name_type : (c : List ℕ) → expects Place.CommonNameType 6 c ≡ anything Place.CommonName
unfolding expects Table.tagged
common_name_type c = refl

attribute_any : (t : ℕ) (c : List ℕ) → expects Place.AttributeValue t c ≡ anything Place.End
unfolding expects
attribute_any t c = refl

common_name_any : (t : ℕ) (c : List ℕ) → expects Place.CommonName t c ≡ Some (record { note = Note.NameValue; inside = None; after = Place.End })
unfolding expects noting
common_name_any t c = refl

alt_name_id : (c : List ℕ) → expects Place.AltNameId 6 c ≡ anything Place.AltNameCritical
unfolding expects Table.tagged
alt_name_id c = refl

dns_name : (c : List ℕ) → expects Place.GeneralName 130 c ≡ anything Place.GeneralName
unfolding expects string_name Table.tagged or_else
dns_name c = refl

primitive_6 : is_constructed 6 ≡ false
unfolding is_constructed
primitive_6 = refl

primitive_1 : is_constructed 1 ≡ false
unfolding is_constructed
primitive_1 = refl

primitive_4 : is_constructed 4 ≡ false
unfolding is_constructed
primitive_4 = refl

primitive_2 : is_constructed 2 ≡ false
unfolding is_constructed
primitive_2 = refl

primitive_130 : is_constructed 130 ≡ false
unfolding is_constructed
primitive_130 = refl

end_may : may_end Place.End ≡ true
unfolding may_end
end_may = refl

-- the ways out of `is_extension`
module _ (s : List ℕ) (at i : ℕ) (w : Option ℕ) (is_w : w ≡ end_of s at 6) (on : w ≡ Some i) where
  to_i : end_of s at 6 ≡ Some i
  to_i = sym is_w ∙ on

  pub extension_short : (d : Option Head) → d ≡ alone s i 4 → (h : Head) → d ≡ Some h → ExtensionEnds s at
  unfolding ExtensionEnds
  extension_short d is_d h opens n =
      let a : alone s i 4 ≡ Some h = sym is_d ∙ opens in
      pass_tag s at 6 i Place.ExtnId Place.Critical to_i extn_id primitive_6 10 n
      ∙ pass_tag s i 4 h.end Place.Critical Place.End (alone_end_of s i 4 h a) critical_none primitive_4 10 n
      ∙ ends_here 11 Place.End n s h.end end_may (omega (arith, alone_ends s i 4 h a))

  pub extension_long : (j : ℕ) (v : Option ℕ) → v ≡ end_of s i 1 → v ≡ Some j → (d : Option Head) → d ≡ alone s j 4 → (h : Head) → d ≡ Some h → ExtensionEnds s at
  unfolding ExtensionEnds
  extension_long j v is_v to_j d is_d h opens n =
      let a : alone s j 4 ≡ Some h = sym is_d ∙ opens in
      pass_tag s at 6 i Place.ExtnId Place.Critical to_i extn_id primitive_6 10 n
      ∙ pass_tag s i 1 j Place.Critical Place.ExtnValue (sym is_v ∙ to_j) critical_given primitive_1 10 n
      ∙ pass_tag s j 4 h.end Place.ExtnValue Place.End (alone_end_of s j 4 h a) extn_value primitive_4 10 n
      ∙ ends_here 11 Place.End n s h.end end_may (omega (arith, alone_ends s j 4 h a))

  -- the way out of `attribute_value` that has seen something
  pub attribute_ends : (d : Option Head) → d ≡ header i (drop i s) → (h : Head) → d ≡ Some h → is_constructed h.tag ≡ false → h.end ≡ length s → AttributeEnds s at i
  unfolding AttributeEnds noted
  attribute_ends d is_d h opens e l n =
      let x = primitive_passes s i 6 h.end 10 h e in
      let cs : List ℕ = take (h.end - h.start) (drop h.start s) in (
        pass_tag s at 6 i Place.AttributeType Place.AttributeValue to_i attribute_type primitive_6 10 n
            ∙ free_goes Place.AttributeValue Place.End Note.Nothing 10 n s i h (sym is_d ∙ opens) (attribute_any h.tag cs) h.end x
            ∙ ends_here 11 Place.End n s h.end end_may (omega (arith, l)),
        pass_tag s at 6 i Place.CommonNameType Place.CommonName to_i common_name_type primitive_6 10 n
            ∙ free_goes Place.CommonName Place.End Note.NameValue 10 n s i h (sym is_d ∙ opens) (common_name_any h.tag cs) h.end x
            ∙ ends_here 11 Place.End (noted Note.NameValue i n) s h.end end_may (omega (arith, l)),
      )

-- whether something was seen, of what is seen
pub some_is : (d : Option Head) → is_some d ≡ true → {A : Type 0} → ((h : Head) → d ≡ Some h → A) → A
some_is None e k = apart e
some_is (Some h) e k = k h refl

pub ruleset sight_laws = (extension_short, extension_long, attribute_ends, not-true, not-false, rules)

-- rows of the table in which fields stand
attribute_row : (c : List ℕ) → is_of common_name c ≡ false → expects Place.AttributeTypeAndValue 48 c ≡ Some (record { note = Note.Nothing; inside = Some Place.AttributeType; after = Place.AttributeTypeAndValue })
unfolding expects holds
attribute_row c e = rw e

common_name_row : (c : List ℕ) → is_of common_name c ≡ true → expects Place.AttributeTypeAndValue 48 c ≡ Some (record { note = Note.Nothing; inside = Some Place.CommonNameType; after = Place.AttributeTypeAndValue })
unfolding expects holds
common_name_row c e = rw e

set_row : (c : List ℕ) → expects Place.RelativeDistinguishedName 49 c ≡ Some (record { note = Note.Nothing; inside = Some Place.AttributeTypeAndValue; after = Place.RelativeDistinguishedName })
unfolding expects holds
set_row c = refl

names_row : (c : List ℕ) → expects Place.AltNames 48 c ≡ Some (record { note = Note.Alternatives; inside = Some Place.GeneralName; after = Place.End })
unfolding expects holds noting
names_row c = refl

string_row : (c : List ℕ) → expects Place.AltNameCritical 4 c ≡ Some (record { note = Note.Nothing; inside = Some Place.AltNames; after = Place.End })
unfolding expects holds Table.tagged or_else
string_row c = refl

extension_row : (c : List ℕ) → is_of subject_alt_name c ≡ false → expects Place.Extension 48 c ≡ Some (record { note = Note.Nothing; inside = Some Place.ExtnId; after = Place.Extension })
unfolding expects holds
extension_row c e = rw e

other_row : (c : List ℕ) → is_of subject_alt_name c ≡ false → expects Place.OtherExtension 48 c ≡ Some (record { note = Note.Nothing; inside = Some Place.ExtnId; after = Place.OtherExtension })
unfolding expects holds
other_row c e = rw e

alt_name_row : (c : List ℕ) → is_of subject_alt_name c ≡ true → expects Place.Extension 48 c ≡ Some (record { note = Note.Nothing; inside = Some Place.AltNameId; after = Place.OtherExtension })
unfolding expects holds
alt_name_row c e = rw e

list_row : (c : List ℕ) → expects Place.ExtensionList 48 c ≡ Some (record { note = Note.Nothing; inside = Some Place.Extension; after = Place.End })
unfolding expects holds
list_row c = refl

tail_row : (c : List ℕ) → expects Place.IssuerUniqueId 163 c ≡ Some (record { note = Note.Nothing; inside = Some Place.ExtensionList; after = Place.End })
unfolding expects holds Table.tagged or_else
tail_row c = refl

attributes_may : may_end Place.AttributeTypeAndValue ≡ true
unfolding may_end
attributes_may = refl

sets_may : may_end Place.RelativeDistinguishedName ≡ true
unfolding may_end
sets_may = refl

names_may : may_end Place.GeneralName ≡ true
unfolding may_end
names_may = refl

extensions_may : (a : ℕ) → may_end (extension_place a) ≡ true
unfolding may_end
extensions_may a = go (eqb a 0)
  where
    go : (b : Bool) → may_end (cond b Place.Extension Place.OtherExtension) ≡ true
    go true = refl
    go false = refl

tail_may : may_end Place.IssuerUniqueId ≡ true
unfolding may_end
tail_may = refl

-- an element with a tag that is known, in which fields stand whose run passes
module _ (p after inside : Place) (note : Note) (levels tag : ℕ) (n : Noted) (s : List ℕ) (at : ℕ) (h : Head) (is_h : tagged s at tag ≡ Some h) where
  enter : expects p tag (take (h.end - h.start) (drop h.start s)) ≡ Some (record { note = note; inside = Some inside; after = after }) → (m : Noted)
      → Ends levels inside (noted note at n) (take h.end s) h.start m → Goes (suc levels) p n s at after m h.end
  enter e m f =
      holds_goes p after note levels n s at h (tagged_opens s at tag h is_h) inside (ap (λ (y : ℕ). expects p y (take (h.end - h.start) (drop h.start s))) (tagged_tag s at tag h is_h) ∙ e) m f

-- all of a list that ends where the element does
whole : (s : List ℕ) (e : ℕ) → e ≡ length s → take e s ≡ s
whole s e f = take_all e s (omega arith)

pub seen_other : (s : List ℕ) (at name : ℕ) (r : Option ℕ) → r ≡ None → AttributeSeen s at name r
unfolding AttributeSeen
seen_other s at name r e = rw e tt

-- the ways out of `attribute_at` that have seen something
module _ (s : List ℕ) (at name : ℕ) (d : Option Head) (is_d : d ≡ alone s at 48) (h : Head) (opens : d ≡ Some h)
    (w : Option ℕ) (said : IfSome w (AttributeEnds s h.start)) (v : ℕ) (is_v : w ≡ Some v) where
  the_ends : AttributeEnds s h.start v
  the_ends = if_some w (AttributeEnds s h.start) said v is_v

  is_h : tagged s at 48 ≡ Some h
  is_h = alone_tagged s at 48 h (sym is_d ∙ opens)

  l : h.end ≡ length s
  l = alone_ends s at 48 h (sym is_d ∙ opens)

  pub attribute_named : is_of common_name (take (h.end - h.start) (drop h.start s)) ≡ true → AttributeSeen s at name (Some v)
  unfolding AttributeSeen AttributeEnds noted
  attribute_named e k a =
      enter Place.AttributeTypeAndValue Place.AttributeTypeAndValue Place.CommonNameType Note.Nothing 11 48 (notes k name a) s at h is_h
      (common_name_row (take (h.end - h.start) (drop h.start s)) e) (notes k v a)
      (ap (λ (x : List ℕ). walk_run (walk_element 11) Place.CommonNameType (notes k name a) x h.start) (whole s h.end l) ∙ (the_ends (notes k name a)).1)
      ∙ ends_here 12 Place.AttributeTypeAndValue (notes k v a) s h.end attributes_may (omega (arith, l))

  pub attribute_plain : is_of common_name (take (h.end - h.start) (drop h.start s)) ≡ false → AttributeSeen s at name (Some name)
  unfolding AttributeSeen AttributeEnds noted
  attribute_plain e k a =
      enter Place.AttributeTypeAndValue Place.AttributeTypeAndValue Place.AttributeType Note.Nothing 11 48 (notes k name a) s at h is_h
      (attribute_row (take (h.end - h.start) (drop h.start s)) e) (notes k name a)
      (ap (λ (x : List ℕ). walk_run (walk_element 11) Place.AttributeType (notes k name a) x h.start) (whole s h.end l) ∙ (the_ends (notes k name a)).0)
      ∙ ends_here 12 Place.AttributeTypeAndValue (notes k name a) s h.end attributes_may (omega (arith, l))

pub ruleset attribute_laws = (seen_other, attribute_named, attribute_plain, alone_inside, alone_order, not-true, not-false, rules)

-- the ways out of `set_at`
pub set_other : (s : List ℕ) (f : Seen) (r : Option Seen) → r ≡ None → SetSeen s f r
unfolding SetSeen
set_other s f r e = rw e tt

pub set_passed : (s : List ℕ) (f : Seen) (d : Option Head) → d ≡ tagged s f.at 49 → (h : Head) → d ≡ Some h
    → (w : Option ℕ) → AttributeSeen (take h.end s) h.start f.noted w → (m : ℕ) → w ≡ Some m → SetSeen s f (Some (record { at = h.end; noted = m }))
unfolding SetSeen AttributeSeen noted
set_passed s f d is_d h opens w said m e =
    let is_h : tagged s f.at 49 ≡ Some h = sym is_d ∙ opens in
    let x : AttributeSeen (take h.end s) h.start f.noted (Some m) = subst (λ (y : Option ℕ). AttributeSeen (take h.end s) h.start f.noted y) e said in (
      further s f.at 49 h is_h,
      λ k a.
          enter Place.RelativeDistinguishedName Place.RelativeDistinguishedName Place.AttributeTypeAndValue Note.Nothing 12 49 (notes k f.noted a) s f.at h is_h
          (set_row (take (h.end - h.start) (drop h.start s))) (notes k m a) (x k a),
    )

pub ruleset set_laws = (set_other, set_passed, header_inside, header_order, rules)

-- the loop over the sets of a subject: with the common name so far
unfoldable pub SubjectTo : List ℕ → ℕ → Seen → Type 0
SubjectTo s at f = (k a : ℕ) → Goes 13 Place.RelativeDistinguishedName (notes k 0 a) s at Place.RelativeDistinguishedName (notes k f.noted a) f.at

module _ (s : List ℕ) (at : ℕ) (f : Seen) (inv : SubjectTo s at f) where
  pub subject_end : length s ≤ f.at → SubjectSeen s at (Some f.noted)
  unfolding SubjectSeen SubjectTo
  subject_end h k a = inv k a ∙ ends_here 13 Place.RelativeDistinguishedName (notes k f.noted a) s f.at sets_may h

  module _ (w : Option Seen) (said : SetSeen s f w) (t : Seen) (on : w ≡ Some t) where
    went : SetSeen s f (Some t)
    went = subst (λ (y : Option Seen). SetSeen s f y) on said

    pub subject_next : SubjectTo s at t
    unfolding SubjectTo SetSeen
    subject_next k a = inv k a ∙ went.1 k a

    pub subject_less : f.at < length s → length s - t.at < length s - f.at
    unfolding SetSeen
    subject_less h = omega (arith, went.0)

pub subject_other : (s : List ℕ) (at : ℕ) (r : Option ℕ) → r ≡ None → SubjectSeen s at r
unfolding SubjectSeen
subject_other s at r e = rw e tt

pub subject_begins : (s : List ℕ) (at : ℕ) → SubjectTo s at (record { at = at; noted = 0 })
unfolding SubjectTo
subject_begins s at k a = refl

pub ruleset subject_laws = (subject_end, subject_next, subject_less, subject_other, subject_begins, rules)

-- the loop over dNSNames
unfoldable pub NamesTo : List ℕ → ℕ → ℕ → Type 0
NamesTo s at i = (n : Noted) → Goes 9 Place.GeneralName n s at Place.GeneralName n i

module _ (s : List ℕ) (at i : ℕ) (inv : NamesTo s at i) where
  pub names_end : length s ≤ i → NamesEnd s at
  unfolding NamesEnd NamesTo
  names_end h n = inv n ∙ ends_here 9 Place.GeneralName n s i names_may h

  module _ (w : Option ℕ) (is_w : w ≡ end_of s i 130) (e : ℕ) (on : w ≡ Some e) where
    pub names_next : NamesTo s at e
    unfolding NamesTo
    names_next n = inv n ∙ pass_tag s i 130 e Place.GeneralName Place.GeneralName (sym is_w ∙ on) dns_name primitive_130 8 n

    pub names_less : i < length s → length s - e < length s - i
    names_less h = omega (arith, end_further s i 130 e (sym is_w ∙ on))

pub names_begin : (s : List ℕ) (at : ℕ) → NamesTo s at at
unfolding NamesTo
names_begin s at n = refl

pub ruleset names_laws = (names_end, names_next, names_less, names_begin, rules)

-- the ways out of `are_alt_names` and of `alt_name` that have seen something
module _ (s : List ℕ) (at : ℕ) (d : Option Head) (is_d : d ≡ alone s at 48) (h : Head) (opens : d ≡ Some h) where
  pub alt_names_end : NamesEnd s h.start → AltNamesEnd s at
  unfolding AltNamesEnd NamesEnd
  alt_names_end said n =
      let a : alone s at 48 ≡ Some h = sym is_d ∙ opens in
      let l = alone_ends s at 48 h a in
      enter Place.AltNames Place.End Place.GeneralName Note.Alternatives 9 48 n s at h (alone_tagged s at 48 h a) (names_row (take (h.end - h.start) (drop h.start s))) (noted Note.Alternatives at n)
      (ap (λ (x : List ℕ). walk_run (walk_element 9) Place.GeneralName (noted Note.Alternatives at n) x h.start) (whole s h.end l) ∙ said (noted Note.Alternatives at n))
      ∙ ends_here 10 Place.End (noted Note.Alternatives at n) s h.end end_may (omega (arith, l))

module _ (s : List ℕ) (at i : ℕ) (w : Option ℕ) (is_w : w ≡ end_of s at 6) (on : w ≡ Some i) (d : Option Head) (is_d : d ≡ alone s i 4) (h : Head) (opens : d ≡ Some h) where
  pub alt_name_ends : AltNamesEnd s h.start → AltNameEnds s at h.start
  unfolding AltNameEnds AltNamesEnd noted
  alt_name_ends said =
      let a : alone s i 4 ≡ Some h = sym is_d ∙ opens in
      let l = alone_ends s i 4 h a in
      let is_h = alone_tagged s i 4 h a in (
        starts_further s i 4 h is_h,
        λ n.
            pass_tag s at 6 i Place.AltNameId Place.AltNameCritical (sym is_w ∙ on) alt_name_id primitive_6 10 n
            ∙ enter Place.AltNameCritical Place.End Place.AltNames Note.Nothing 10 4 n s i h is_h (string_row (take (h.end - h.start) (drop h.start s))) (noted Note.Alternatives h.start n)
            (ap (λ (x : List ℕ). walk_run (walk_element 10) Place.AltNames n x h.start) (whole s h.end l) ∙ said n)
            ∙ ends_here 11 Place.End (noted Note.Alternatives h.start n) s h.end end_may (omega (arith, l)),
      )

pub ruleset alt_name_laws = (alt_names_end, alt_name_ends, not-true, not-false, rules)

-- the ways out of `extension_at`
pub extension_other : (s : List ℕ) (f : Seen) (r : Option Seen) → r ≡ None → ExtensionSeen s f r
unfolding ExtensionSeen
extension_other s f r e = rw e tt

module _ (s : List ℕ) (f : Seen) (d : Option Head) (is_d : d ≡ tagged s f.at 48) (h : Head) (opens : d ≡ Some h) where
  the_extension : tagged s f.at 48 ≡ Some h
  the_extension = sym is_d ∙ opens

  pub extension_passed : is_of subject_alt_name (take (h.end - h.start) (drop h.start s)) ≡ false → ExtensionEnds (take h.end s) h.start → ExtensionSeen s f (Some (record { at = h.end; noted = f.noted }))
  unfolding ExtensionSeen ExtensionEnds noted
  extension_passed e said = (further s f.at 48 h the_extension, λ k m. go (eqb f.noted 0) k m)
    where
      go : (b : Bool) (k m : ℕ) → Goes 12 (cond b Place.Extension Place.OtherExtension) (notes k m f.noted) s f.at (cond b Place.Extension Place.OtherExtension) (notes k m f.noted) h.end
      go true k m = enter Place.Extension Place.Extension Place.ExtnId Note.Nothing 11 48 (notes k m f.noted) s f.at h the_extension (extension_row (take (h.end - h.start) (drop h.start s)) e) (notes k m f.noted) (said (notes k m f.noted))
      go false k m = enter Place.OtherExtension Place.OtherExtension Place.ExtnId Note.Nothing 11 48 (notes k m f.noted) s f.at h the_extension (other_row (take (h.end - h.start) (drop h.start s)) e) (notes k m f.noted) (said (notes k m f.noted))

  pub alt_name_passed : is_of subject_alt_name (take (h.end - h.start) (drop h.start s)) ≡ true → f.noted ≡ 0 → (w : Option ℕ) → IfSome w (AltNameEnds (take h.end s) h.start) → (v : ℕ) → w ≡ Some v
      → ExtensionSeen s f (Some (record { at = h.end; noted = v }))
  unfolding ExtensionSeen AltNameEnds noted
  alt_name_passed e none w said v is_v = (further s f.at 48 h the_extension, λ k m. rw (eq-eqb f.noted 0 none, ne_eqb v 0 (λ (z : v ≡ 0). absurd (omega (arith, names.0, z)))) (go k m))
    where
      names : AltNameEnds (take h.end s) h.start v
      names = if_some w (AltNameEnds (take h.end s) h.start) said v is_v

      go : (k m : ℕ) → Goes 12 Place.Extension (notes k m f.noted) s f.at Place.OtherExtension (notes k m v) h.end
      go k m =
          enter Place.Extension Place.OtherExtension Place.AltNameId Note.Nothing 11 48 (notes k m f.noted) s f.at h the_extension (alt_name_row (take (h.end - h.start) (drop h.start s)) e) (notes k m v)
          (names.1 (notes k m f.noted))

pub ruleset extension_laws = (extension_other, extension_passed, alt_name_passed, header_inside, header_order, not-true, not-false, rules)

-- the loop over extensions, with where GeneralNames begin so far
unfoldable pub ExtensionsTo : List ℕ → ℕ → Seen → Type 0
ExtensionsTo s at f = (k m : ℕ) → Goes 12 Place.Extension (notes k m 0) s at (extension_place f.noted) (notes k m f.noted) f.at

module _ (s : List ℕ) (at : ℕ) (f : Seen) (inv : ExtensionsTo s at f) where
  pub extensions_end : length s ≤ f.at → ExtensionsSeen s at (Some f.noted)
  unfolding ExtensionsSeen ExtensionsTo
  extensions_end h k m = inv k m ∙ ends_here 12 (extension_place f.noted) (notes k m f.noted) s f.at (extensions_may f.noted) h

  module _ (w : Option Seen) (said : ExtensionSeen s f w) (t : Seen) (on : w ≡ Some t) where
    gone : ExtensionSeen s f (Some t)
    gone = subst (λ (y : Option Seen). ExtensionSeen s f y) on said

    pub extensions_next : ExtensionsTo s at t
    unfolding ExtensionsTo ExtensionSeen
    extensions_next k m = inv k m ∙ gone.1 k m

    pub extensions_less : f.at < length s → length s - t.at < length s - f.at
    unfolding ExtensionSeen
    extensions_less h = omega (arith, gone.0)

pub extensions_other : (s : List ℕ) (at : ℕ) (r : Option ℕ) → r ≡ None → ExtensionsSeen s at r
unfolding ExtensionsSeen
extensions_other s at r e = rw e tt

pub extensions_begin : (s : List ℕ) (at : ℕ) → ExtensionsTo s at (record { at = at; noted = 0 })
unfolding ExtensionsTo
extensions_begin s at k m = refl

pub ruleset extensions_laws = (extensions_end, extensions_next, extensions_less, extensions_other, extensions_begin, rules)

-- the ways out of `extension_list` and of `tail`
pub list_other : (s : List ℕ) (at : ℕ) (r : Option ℕ) → r ≡ None → ListSeen s at r
unfolding ListSeen
list_other s at r e = rw e tt

pub tail_other : (s : List ℕ) (at : ℕ) (r : Option ℕ) → r ≡ None → TailSeen s at r
unfolding TailSeen
tail_other s at r e = rw e tt

pub tail_none : (s : List ℕ) (at : ℕ) → at ≡ length s → TailSeen s at (Some 0)
unfolding TailSeen
tail_none s at e k m = ends_here 14 Place.IssuerUniqueId (notes k m 0) s at tail_may (omega (arith, e))

pub list_seen : (s : List ℕ) (at : ℕ) (d : Option Head) → d ≡ alone s at 48 → (h : Head) → d ≡ Some h → (r : Option ℕ) → ExtensionsSeen s h.start r → ListSeen s at r
unfolding ListSeen ExtensionsSeen noted
list_seen s at d is_d h opens (Some b) said = λ k m.
    let a : alone s at 48 ≡ Some h = sym is_d ∙ opens in
    let l = alone_ends s at 48 h a in
    enter Place.ExtensionList Place.End Place.Extension Note.Nothing 12 48 (notes k m 0) s at h (alone_tagged s at 48 h a) (list_row (take (h.end - h.start) (drop h.start s))) (notes k m b)
    (ap (λ (x : List ℕ). walk_run (walk_element 12) Place.Extension (notes k m 0) x h.start) (whole s h.end l) ∙ said k m)
    ∙ ends_here 13 Place.End (notes k m b) s h.end end_may (omega (arith, l))
list_seen s at d is_d h opens None said = tt

pub tail_seen : (s : List ℕ) (at : ℕ) (d : Option Head) → d ≡ alone s at 163 → (h : Head) → d ≡ Some h → (r : Option ℕ) → ListSeen s h.start r → TailSeen s at r
unfolding TailSeen ListSeen noted
tail_seen s at d is_d h opens (Some b) said = λ k m.
    let a : alone s at 163 ≡ Some h = sym is_d ∙ opens in
    let l = alone_ends s at 163 h a in
    enter Place.IssuerUniqueId Place.End Place.ExtensionList Note.Nothing 13 163 (notes k m 0) s at h (alone_tagged s at 163 h a) (tail_row (take (h.end - h.start) (drop h.start s))) (notes k m b)
    (ap (λ (x : List ℕ). walk_run (walk_element 13) Place.ExtensionList (notes k m 0) x h.start) (whole s h.end l) ∙ said k m)
    ∙ ends_here 14 Place.End (notes k m b) s h.end end_may (omega (arith, l))
tail_seen s at d is_d h opens None said = tt

pub ruleset tail_laws = (list_other, tail_other, tail_none, list_seen, tail_seen, rules)

-- rows of TBSCertificate and of Certificate
version_row : (c : List ℕ) → expects Place.Version 160 c ≡ Some (record { note = Note.Nothing; inside = Some Place.VersionNumber; after = Place.SerialNumber })
unfolding expects holds Table.tagged or_else
version_row c = refl

version_number : (c : List ℕ) → expects Place.VersionNumber 2 c ≡ anything Place.End
unfolding expects Table.tagged
version_number c = refl

version_none : (c : List ℕ) → expects Place.Version 2 c ≡ anything Place.Signature
unfolding expects holds Table.tagged or_else
version_none c = refl

serial_number : (c : List ℕ) → expects Place.SerialNumber 2 c ≡ anything Place.Signature
unfolding expects Table.tagged
serial_number c = refl

signature_row : (c : List ℕ) → expects Place.Signature 48 c ≡ Some (record { note = Note.Nothing; inside = None; after = Place.Issuer })
unfolding expects Table.tagged
signature_row c = refl

issuer_row : (c : List ℕ) → expects Place.Issuer 48 c ≡ Some (record { note = Note.Nothing; inside = None; after = Place.Validity })
unfolding expects Table.tagged
issuer_row c = refl

validity_row : (c : List ℕ) → expects Place.Validity 48 c ≡ Some (record { note = Note.Nothing; inside = None; after = Place.Subject })
unfolding expects Table.tagged
validity_row c = refl

subject_row : (c : List ℕ) → expects Place.Subject 48 c ≡ Some (record { note = Note.Nothing; inside = Some Place.RelativeDistinguishedName; after = Place.SubjectPublicKeyInfo })
unfolding expects holds
subject_row c = refl

key_row : (c : List ℕ) → expects Place.SubjectPublicKeyInfo 48 c ≡ Some (record { note = Note.KeyInfo; inside = None; after = Place.IssuerUniqueId })
unfolding expects Table.tagged noting
key_row c = refl

tbs_row : (c : List ℕ) → expects Place.TbsCertificate 48 c ≡ Some (record { note = Note.Nothing; inside = Some Place.Version; after = Place.SignatureAlgorithm })
unfolding expects holds
tbs_row c = refl

algorithm_row : (c : List ℕ) → expects Place.SignatureAlgorithm 48 c ≡ Some (record { note = Note.Nothing; inside = None; after = Place.SignatureValue })
unfolding expects Table.tagged
algorithm_row c = refl

signature_value : (c : List ℕ) → expects Place.SignatureValue 3 c ≡ anything Place.End
unfolding expects Table.tagged
signature_value c = refl

certificate_row : (c : List ℕ) → expects Place.Certificate 48 c ≡ Some (record { note = Note.Nothing; inside = Some Place.TbsCertificate; after = Place.End })
unfolding expects holds
certificate_row c = refl

primitive_3 : is_constructed 3 ≡ false
unfolding is_constructed
primitive_3 = refl

-- the ways out of `version_end` and of `serial_end`
pub version_other : (s : List ℕ) (at : ℕ) (r : Option ℕ) → r ≡ None → VersionSeen s at r
unfolding VersionSeen
version_other s at r e = rw e tt

version_to : (s : List ℕ) (at : ℕ) (w : Option ℕ) → VersionSeen s at w → (e : ℕ) → w ≡ Some e → (n : Noted) → Goes 14 Place.Version n s at Place.SerialNumber n e
unfolding VersionSeen
version_to s at w said e q = subst (λ (x : Option ℕ). VersionSeen s at x) q said

pub version_passed : (s : List ℕ) (at : ℕ) (d : Option Head) → d ≡ tagged s at 160 → (h : Head) → d ≡ Some h
    → (w : Option Head) → w ≡ alone (take h.end s) h.start 2 → (g : Head) → w ≡ Some g → VersionSeen s at (Some h.end)
unfolding VersionSeen noted
version_passed s at d is_d h opens w is_w g one n =
    let is_h : tagged s at 160 ≡ Some h = sym is_d ∙ opens in
    let a : alone (take h.end s) h.start 2 ≡ Some g = sym is_w ∙ one in
    enter Place.Version Place.SerialNumber Place.VersionNumber Note.Nothing 13 160 n s at h is_h (version_row (take (h.end - h.start) (drop h.start s))) n
    (pass_tag (take h.end s) h.start 2 g.end Place.VersionNumber Place.End (alone_end_of (take h.end s) h.start 2 g a) version_number primitive_2 12 n
    ∙ ends_here 13 Place.End n (take h.end s) g.end end_may (omega (arith, alone_ends (take h.end s) h.start 2 g a)))

module _ (s : List ℕ) (at : ℕ) (r : Option ℕ) where
  pub serial_after : (w : Option ℕ) → VersionSeen s at w → (v : ℕ) → w ≡ Some v → r ≡ end_of s v 2 → SerialSeen s at r
  unfolding SerialSeen
  serial_after w said v is_v is_r = go r (sym is_r)
    where
      go : (x : Option ℕ) → end_of s v 2 ≡ x → SerialSeen s at x
      go (Some e) f = λ n. version_to s at w said v is_v n ∙ pass_tag s v 2 e Place.SerialNumber Place.Signature f serial_number primitive_2 13 n
      go None f = tt

  pub serial_first : r ≡ end_of s at 2 → SerialSeen s at r
  unfolding SerialSeen
  serial_first is_r = go r (sym is_r)
    where
      go : (x : Option ℕ) → end_of s at 2 ≡ x → SerialSeen s at x
      go (Some e) f = λ n. pass_tag s at 2 e Place.Version Place.Signature f version_none primitive_2 13 n
      go None f = tt

serial_to : (s : List ℕ) (at : ℕ) (w : Option ℕ) → SerialSeen s at w → (e : ℕ) → w ≡ Some e → (n : Noted) → Goes 14 Place.Version n s at Place.Signature n e
unfolding SerialSeen
serial_to s at w said e q = subst (λ (x : Option ℕ). SerialSeen s at x) q said

pub ruleset serial_laws = (version_other, version_passed, serial_after, serial_first, header_inside, rules)

-- the ways out of `middle_end`
pub middle_other : (s : List ℕ) (at : ℕ) (r : Option ℕ) → r ≡ None → MiddleSeen s at r
unfolding MiddleSeen
middle_other s at r e = rw e tt

middle_to : (s : List ℕ) (at : ℕ) (w : Option ℕ) → MiddleSeen s at w → (e : ℕ) → w ≡ Some e → (n : Noted) → Goes 14 Place.Signature n s at Place.Subject n e
unfolding MiddleSeen
middle_to s at w said e q = subst (λ (x : Option ℕ). MiddleSeen s at x) q said

pub middle_passed : (s : List ℕ) (at : ℕ) (w : Option ℕ) → FreeSeen 13 s at 48 w → (i : ℕ) → w ≡ Some i → (x : Option ℕ) → FreeSeen 13 s i 48 x → (j : ℕ) → x ≡ Some j → (r : Option ℕ) → FreeSeen 13 s j 48 r → MiddleSeen s at r
unfolding MiddleSeen FreeSeen FreeTo noted
middle_passed s at w fi i is_i x fj j is_j (Some e) fe = λ n.
    free_to 13 s at 48 w fi i is_i Place.Signature Place.Issuer Note.Nothing n signature_row
    ∙ free_to 13 s i 48 x fj j is_j Place.Issuer Place.Validity Note.Nothing n issuer_row
    ∙ fe Place.Validity Place.Subject Note.Nothing n validity_row
middle_passed s at w fi i is_i x fj j is_j None fe = tt

pub ruleset middle_laws = (middle_other, middle_passed, rules)

-- the ways out of `subject_on`
pub on_other : (s : List ℕ) (at : ℕ) (r : Option Noted) → r ≡ None → SubjectOnSeen s at r
unfolding SubjectOnSeen
on_other s at r e = rw e tt

pub on_passed : (s : List ℕ) (at : ℕ) (d : Option Head) → d ≡ tagged s at 48 → (h : Head) → d ≡ Some h
    → (w : Option ℕ) → SubjectSeen (take h.end s) h.start w → (m : ℕ) → w ≡ Some m → (u : Option ℕ) → FreeSeen 13 s h.end 48 u → (i : ℕ) → u ≡ Some i
    → (x : Option ℕ) → TailSeen s i x → (a : ℕ) → x ≡ Some a → SubjectOnSeen s at (Some (record { key = h.end; name = m; alternatives = a }))
unfolding SubjectOnSeen SubjectSeen TailSeen FreeTo noted
on_passed s at d is_d h opens w said m e u free i is_i x rest a f =
    let is_h : tagged s at 48 ≡ Some h = sym is_d ∙ opens in
    let y : SubjectSeen (take h.end s) h.start (Some m) = subst (λ (v : Option ℕ). SubjectSeen (take h.end s) h.start v) e said in
    let z : TailSeen s i (Some a) = subst (λ (v : Option ℕ). TailSeen s i v) f rest in
    enter Place.Subject Place.SubjectPublicKeyInfo Place.RelativeDistinguishedName Note.Nothing 13 48 (notes 0 0 0) s at h is_h (subject_row (take (h.end - h.start) (drop h.start s))) (notes 0 m 0) (y 0 0)
    ∙ free_to 13 s h.end 48 u free i is_i Place.SubjectPublicKeyInfo Place.IssuerUniqueId Note.KeyInfo (notes 0 m 0) key_row
    ∙ z h.end m

pub ruleset on_laws = (on_other, on_passed, header_inside, header_order, rules)

-- the ways out of `tbs_certificate`, of `certificate_fields` and of `certificate`
pub tbs_other : (s : List ℕ) (at : ℕ) (r : Option Noted) → r ≡ None → TbsSeen s at r
unfolding TbsSeen
tbs_other s at r e = rw e tt

pub tbs_passed : (s : List ℕ) (at : ℕ) (w : Option ℕ) → SerialSeen s at w → (i : ℕ) → w ≡ Some i → (x : Option ℕ) → MiddleSeen s i x → (j : ℕ) → x ≡ Some j → (r : Option Noted) → SubjectOnSeen s j r → TbsSeen s at r
unfolding TbsSeen SubjectOnSeen
tbs_passed s at w fi i is_i x fj j is_j (Some n) said = serial_to s at w fi i is_i none_noted ∙ middle_to s i x fj j is_j none_noted ∙ said
tbs_passed s at w fi i is_i x fj j is_j None said = tt

pub fields_other : (s : List ℕ) (at : ℕ) (r : Option Noted) → r ≡ None → FieldsSeen s at r
unfolding FieldsSeen
fields_other s at r e = rw e tt

pub fields_passed : (s : List ℕ) (at : ℕ) (d : Option Head) → d ≡ tagged s at 48 → (h : Head) → d ≡ Some h → (w : Option ℕ) → FreeSeen 14 s h.end 48 w → (i : ℕ) → w ≡ Some i
    → (x : Option Head) → x ≡ alone s i 3 → (g : Head) → x ≡ Some g → (r : Option Noted) → TbsSeen (take h.end s) h.start r → FieldsSeen s at r
unfolding FieldsSeen TbsSeen FreeTo noted
fields_passed s at d is_d h opens w free i is_i x is_x g one (Some n) said =
    let is_h : tagged s at 48 ≡ Some h = sym is_d ∙ opens in
    let a : alone s i 3 ≡ Some g = sym is_x ∙ one in
    enter Place.TbsCertificate Place.SignatureAlgorithm Place.Version Note.Nothing 14 48 none_noted s at h is_h (tbs_row (take (h.end - h.start) (drop h.start s))) n said
    ∙ free_to 14 s h.end 48 w free i is_i Place.SignatureAlgorithm Place.SignatureValue Note.Nothing n algorithm_row
    ∙ pass_tag s i 3 g.end Place.SignatureValue Place.End (alone_end_of s i 3 g a) signature_value primitive_3 14 n
    ∙ ends_here 15 Place.End n s g.end end_may (omega (arith, alone_ends s i 3 g a))
fields_passed s at d is_d h opens w free i is_i x is_x g one None said = tt

pub certificate_other : (s : List ℕ) (r : Option Noted) → r ≡ None → CertificateSeen s r
unfolding CertificateSeen
certificate_other s r e = rw e tt

pub certificate_passed : (s : List ℕ) (d : Option Head) → d ≡ alone s 0 48 → (h : Head) → d ≡ Some h → (r : Option Noted) → FieldsSeen s h.start r → CertificateSeen s r
unfolding CertificateSeen FieldsSeen noted
certificate_passed s d is_d h opens (Some n) said =
    let a : alone s 0 48 ≡ Some h = sym is_d ∙ opens in
    let l = alone_ends s 0 48 h a in
    enter Place.Certificate Place.End Place.TbsCertificate Note.Nothing 15 48 none_noted s 0 h (alone_tagged s 0 48 h a) (certificate_row (take (h.end - h.start) (drop h.start s))) n
    (ap (λ (x : List ℕ). walk_run (walk_element 15) Place.TbsCertificate none_noted x h.start) (whole s h.end l) ∙ said)
    ∙ ends_here 16 Place.End n s h.end end_may (omega (arith, l))
certificate_passed s d is_d h opens None said = tt

pub ruleset shape_laws = (tbs_other, tbs_passed, fields_other, fields_passed, certificate_other, certificate_passed, header_inside, header_order, rules)

-- of a certificate that is read at sight the walk says the same
pub fields_seen : (s : List ℕ) (w : Option Noted) → CertificateSeen s w → (n : Noted) → w ≡ Some n → (f : Found) → f ≡ found_at s n → Ok f ≡ fields_of s
unfolding CertificateSeen
fields_seen s w said n e f g = fields_are s (Ok n) (sym (subst (λ (x : Option Noted). CertificateSeen s x) e said)) n f refl g

pub ruleset at_sight_laws = (fields_seen, rules)
