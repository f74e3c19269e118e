-- The facts read of the leaf as the plain call takes them: the key's place, the DNS-IDs one after another, the list of their lengths, and the common name.
use Rattle.std.specs.Prelude.{ℕ, ◌-◌, List, [], ◌∷◌, take, drop, Option, None, Some}
use Rattle.numbers.specs.Numbers.{written}
use Rattle.x509.specs.declared.Part.{Part}
use Rattle.x509.specs.declared.Found.{Found}
use Rattle.leaf.specs.Names.{dns_ids_of, each_as}

-- the bytes of a part
abbrev pub part_of : List ℕ → Part → List ℕ
part_of s p = take (p.end - p.start) (drop p.start s)

-- the length of a part as a number of a list
abbrev pub length_of : Part → List ℕ
length_of p = written ((p.end - p.start) ∷ [])

-- the place of a part as two numbers of a list
abbrev pub place_of : Part → List ℕ
place_of p = written (p.start ∷ (p.end - p.start) ∷ [])

-- the DNS-IDs' bytes, one after another
unfoldable pub names_text : List ℕ → Found → List ℕ
names_text s found = each_as (part_of (take found.alternatives.end s)) (dns_ids_of s found)

-- the list of their lengths
unfoldable pub lengths_text : List ℕ → Found → List ℕ
lengths_text s found = each_as length_of (dns_ids_of s found)

-- common_name_given: 1 a name, 2 none
unfoldable pub given_of : Option Part → ℕ
given_of (Some p) = 1
given_of None = 2

-- the common name's bytes, or none
unfoldable pub common_name_in : List ℕ → Option Part → List ℕ
common_name_in s (Some p) = part_of s p
common_name_in s None = []
