-- `fields::name_end` meets its contract. Assumes nothing.
use Rattle.std.proofs.Common.{arith, rules}
use Rattle.fields.proofs.Name.{inner, name_after, name_place, name_inner, name_stopped, name_none, name_bad, name_empty, name_long, name_named, name_first}
use Rattle.fields.proofs.name_end.Goals as goal
use Rattle.fields.proofs.name_end.Goals.{else-e-s-via-then-e-s+then-s-e+then-e-at-ge1+then-e-at-le-LONGEST_NAME+else-is_letter_or_digit, else-e-s-via-then-e-s+then-s-e+then-e-at-ge1+else-e-at-le-LONGEST_NAME, else-e-s-via-then-e-s+then-s-e+else-e-at-ge1, else-e-s-via-then-e-s+else-s-e, else-e-s-via-else-e-s}

pub overflow_sub-e : goal.overflow_sub-e
overflow_sub-e c = name_after c.args.s.now c.args.end c.args.at c.past-e.result (c.past-e.ensures (inner c.args.end) (λ b r l q. search rules))

pub returns-then-is_letter_or_digit : goal.returns-then-is_letter_or_digit
returns-then-is_letter_or_digit c =
    let s = c.args.s.now in
    let end = c.args.end in
    let at = c.args.at in
    let i = c.past-e.result in
    let gone = c.past-e.ensures (inner end) (λ b r l q. search rules) in
    name_named s end at i (name_after s end at i gone) (name_place s end at i gone) c.if-e-s.true c.if-s-e.true (name_inner s end at i gone) c.if-e-at-ge1.true c.if-e-at-le-LONGEST_NAME.true c.is_letter_or_digit.result c.is_letter_or_digit.ensures c.if-is_letter_or_digit.true

pub returns-else-e-s : goal.returns-else-e-s
returns-else-e-s c =
    let s = c.args.s.now in
    let end = c.args.end in
    let at = c.args.at in
    let i = c.past-e.result in
    let gone = c.past-e.ensures (inner end) (λ b r l q. search rules) in
    let after = name_after s end at i gone in
    let place = name_place s end at i gone in
    elim c.else-e-s.branch [
      | else-e-s-via-then-e-s+then-s-e+then-e-at-ge1+then-e-at-le-LONGEST_NAME+else-is_letter_or_digit w ↦
          name_first s end at i after place w.if-e-s.true w.if-s-e.true (name_inner s end at i gone) w.if-e-at-ge1.true w.if-e-at-le-LONGEST_NAME.true w.is_letter_or_digit.result w.is_letter_or_digit.ensures w.if-is_letter_or_digit.false
      | else-e-s-via-then-e-s+then-s-e+then-e-at-ge1+else-e-at-le-LONGEST_NAME w ↦ name_long s end at i after place w.if-e-s.true w.if-s-e.true w.if-e-at-le-LONGEST_NAME.false
      | else-e-s-via-then-e-s+then-s-e+else-e-at-ge1 w ↦ name_empty s end at i after place w.if-e-s.true w.if-s-e.true w.if-e-at-ge1.false
      | else-e-s-via-then-e-s+else-s-e w ↦ name_bad s end at i after place (name_inner s end at i gone) w.if-e-s.true w.if-s-e.false (name_stopped s end at i gone w.if-e-s.true)
      | else-e-s-via-else-e-s w ↦ name_none s end at i after place w.if-e-s.false
    ]
