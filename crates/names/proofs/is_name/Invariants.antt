use Rattle.std.proofs.Common.{◌≡◌, ◌+◌, ◌≤◌, drop}
use Rattle.lists.specs.Bytes.{all}
use Rattle.lists.specs.Span.{span_of}
use Rattle.lists.specs.Split.{split}
use Rattle.names.specs.Name.{label_byte, is_label}
use Rattle.names.proofs.is_name.Given as goal

abbrev pub invariant-loop-i : goal.invariant-loop-i
invariant-loop-i l = record {
  after : l.start ≤ l.i;
  label : l.start + span_of label_byte (drop l.start l.s) ≡ l.i + span_of label_byte (drop l.i l.s);
  labels : all is_label (split 46 l.s) ≡ all is_label (split 46 (drop l.start l.s));
}
