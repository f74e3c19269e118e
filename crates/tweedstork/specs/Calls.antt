-- What each exported call answers, over its arguments as C passes them.
use Rattle.std.specs.Prelude.{ℕ, List}
use Rattle.std.proofs.Math.Option.{Option, none, some}
use Rattle.messages.specs.declared.MessageAnswer.{MessageAnswer}
use Rattle.messages.specs.declared.MxLookup.{MxLookup}
use Rattle.messages.specs.Hosts.{no_host, next_host}
use Rattle.tweedstork.specs.Codes.{mx_lookup_of}

-- tweedstork_version: major * 10000 + minor * 100 + patch, as in the header
abbrev pub version : ℕ
version = 10800

-- document 01, "Answer numbers": an input code outside its named choices is 67, before all others
unfoldable pub looked_up : Option MxLookup → List ℕ → List ℕ → MessageAnswer
looked_up none preferences verdicts = no_host 67
looked_up (some lookup) preferences verdicts = next_host lookup preferences verdicts

-- tweedstork_next_host
unfoldable pub next_host_answer : ℕ → List ℕ → List ℕ → MessageAnswer
next_host_answer code preferences verdicts = looked_up (mx_lookup_of code) preferences verdicts
