-- `names::is_name` meets its contract. Assumes nothing.
use Rattle.std.proofs.Common.{◌≡◌, ◌∙◌, ◌≤◌, ◌+◌, length, drop, refl, sym, arith}
use borrow.Author.Tests.{eqb-true}
use Rattle.lists.specs.Span.{span_of}
use Rattle.lists.proofs.Laws.{tests}
use Rattle.lists.proofs.Span.{past_next, past_stop, past_end}
use Rattle.names.specs.Name.{label_byte, is_name}
use Rattle.names.proofs.Name.{name_byte, name_next, name_bad, name_hyphen, name_last}
use Rattle.names.proofs.is_name.Goals as goal
use Rattle.names.proofs.is_name.Goals.{then-s-lt1-via-then-s-lt1, then-s-lt1-via-else-s-lt1+then-s-gt253, then-s-lt1-via-else-s-lt1+else-s-gt253+then-has_hyphen_at, then-b-ne46-via-then-b-ne46, then-b-ne46-via-else-b-ne46+then-not-has_label_ends, then-b-ne46-via-else-b-ne46+else-not-has_label_ends+then-has_hyphen_at-2, then-not-is_label_byte+else-b-ne46+else-not-has_label_ends+else-has_hyphen_at-2, else-not-is_label_byte}

pub returns-then-s-lt1 : goal.returns-then-s-lt1
unfolding is_name
returns-then-s-lt1 c = elim c.then-s-lt1.branch [ then-s-lt1-via-then-s-lt1 w ↦ search tests | then-s-lt1-via-else-s-lt1+then-s-gt253 w ↦ search tests | then-s-lt1-via-else-s-lt1+else-s-gt253+then-has_hyphen_at w ↦ name_hyphen c.args.s.now 0 (0 + span_of label_byte (drop 0 c.args.s.now)) refl (omega arith) refl (eqb-true _ _ (sym w.has_hyphen_at.ensures ∙ w.if-has_hyphen_at.true)) ]

pub returns-then-b-ne46 : goal.returns-then-b-ne46
returns-then-b-ne46 c =
    let s = c.args.s.now in
    let v = c.loop-i.invariant in
    let stops = past_stop label_byte s c.loop-i.i c.loop-i.start v.label c.loop-i-test.true c.is_label_byte.result c.is_label_byte.ensures c.if-not-is_label_byte.true in
    let w : c.loop-i.start ≤ length s = omega (arith, v.after) in
    elim c.then-b-ne46.branch [
      | then-b-ne46-via-then-b-ne46 x ↦ name_byte s c.loop-i.start c.loop-i.i stops w v.labels c.loop-i-test.true x.if-b-ne46.true
      | then-b-ne46-via-else-b-ne46+then-not-has_label_ends x ↦ name_bad s c.loop-i.start c.loop-i.i stops w x.has_label_ends.result x.has_label_ends.ensures v.labels x.if-not-has_label_ends.true
      | then-b-ne46-via-else-b-ne46+else-not-has_label_ends+then-has_hyphen_at-2 x ↦
          name_hyphen s (c.loop-i.i + 1) (c.loop-i.i + 1 + span_of label_byte (drop (c.loop-i.i + 1) s)) refl (omega arith)
          (name_next s c.loop-i.start c.loop-i.i stops w x.has_label_ends.result x.has_label_ends.ensures v.labels x.if-not-has_label_ends.false c.loop-i-test.true x.if-b-ne46.false)
          (eqb-true _ _ (sym x.has_hyphen_at-else-not-has_label_ends.ensures ∙ x.if-has_hyphen_at-2.true))
    ]

pub loop-i-preserved : goal.loop-i-preserved
loop-i-preserved c =
    let s = c.args.s.now in
    let v = c.loop-i.invariant in
    elim c.if-not-is_label_byte.branch [
      | then-not-is_label_byte+else-b-ne46+else-not-has_label_ends+else-has_hyphen_at-2 x ↦
          let stops = past_stop label_byte s c.loop-i.i c.loop-i.start v.label c.loop-i-test.true c.is_label_byte.result c.is_label_byte.ensures x.if-not-is_label_byte.true in
          rw x.start-is (record {
            after = omega arith;
            label = refl;
            labels = name_next s c.loop-i.start c.loop-i.i stops (omega (arith, v.after)) x.has_label_ends.result x.has_label_ends.ensures v.labels x.if-not-has_label_ends.false c.loop-i-test.true x.if-b-ne46.false;
          })
      | else-not-is_label_byte x ↦
          rw x.start-is (record {
            after = omega (arith, v.after);
            label = past_next label_byte s c.loop-i.i c.loop-i.start v.label c.loop-i-test.true c.is_label_byte.result c.is_label_byte.ensures x.if-not-is_label_byte.false;
            labels = v.labels;
          })
    ]

pub returns : goal.returns
returns c =
    let s = c.args.s.now in
    let v = c.loop-i.invariant in
    let stops = past_end label_byte s c.loop-i.i c.loop-i.start v.label c.loop-i-test.false in
    let e : length s ≡ c.loop-i.i = omega (arith, c.loop-i.auto.i-end) in
    name_last s c.loop-i.start (e ∙ stops) (omega (arith, v.after)) v.labels (omega arith) c.if-s-gt253.false c.has_label_ends-2.result c.has_label_ends-2.ensures
