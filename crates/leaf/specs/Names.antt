-- Document 02, No. 7: "the DNS-IDs in order" are the dNSName elements among the GeneralNames of the one subjectAltName.
use Rattle.std.specs.Prelude.{ℕ, cond, List, [], ◌∷◌, ◌++◌, eqb, take, Option, None, Some}
use Rattle.der.specs.declared.Head.{Head}
use Rattle.der.specs.Elements.{elements}
use Rattle.x509.specs.Fields.{primitive}
use Rattle.x509.specs.declared.Part.{Part}
use Rattle.x509.specs.declared.Found.{Found}
use Rattle.leaf.specs.declared.DnsIds.{DnsIds}

-- GeneralName's dNSName [2]
abbrev pub dns_name : ℕ
dns_name = primitive 2

-- what stands in an element
abbrev pub contents : Head → Part
contents h = record { start = h.start; end = h.end }

-- what stands in those of some elements that are dNSName
unfoldable pub dns_names : List Head → List Part
dns_names [] = []
dns_names (h ∷ hs) = cond (eqb h.tag dns_name) (contents h ∷ dns_names hs) (dns_names hs)

-- the DNS-IDs among the elements from a place on to the list's end, in order
unfoldable pub dns_ids_from : List ℕ → ℕ → List Part
dns_ids_from s at = dns_names (elements s at)

-- those that are left before an iterator over DNS-IDs
abbrev pub ids_left : DnsIds → List Part
ids_left d = dns_ids_from d.src.now d.at

-- the DNS-IDs of a certificate in which that was found
unfoldable pub dns_ids_of : List ℕ → Found → List Part
dns_ids_of s found = dns_ids_from (take found.alternatives.end s) found.alternatives.start

-- the first part, or none
unfoldable pub first_of : List Part → Option Part
first_of [] = None
first_of (p ∷ ps) = Some p

-- what is written for each part, one after another
unfoldable pub each_as : (Part → List ℕ) → List Part → List ℕ
each_as f [] = []
each_as f (p ∷ ps) = f p ++ each_as f ps
