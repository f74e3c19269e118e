-- Document 01, "Answer numbers": the verdicts on a host. One definition for all calls that answer them or take them.
use Rattle.std.specs.Prelude.{ℕ, Bool, ◌||◌}
use Rattle.lists.specs.Bytes.{within}

-- deliver: in cleartext, encrypted, authenticated by DANE, by MTA-STS, by both
unfoldable pub is_delivery : ℕ → Bool
is_delivery n = within 1 5 n

-- next host: 20 to 27, and 28 (document 02, No. 6)
unfoldable pub is_next_host : ℕ → Bool
is_next_host n = within 20 28 n

-- a verdict on a host
abbrev pub is_verdict : ℕ → Bool
is_verdict n = is_delivery n || is_next_host n
