-- `places` meets its contract. Assumes nothing.
use Rattle.std.proofs.Common.{◌≡◌, ◌∙◌, ap, ◌∷◌, [], ◌+◌, ◌-◌, ◌<◌, ◌^◌, length, arith}
use Rattle.numbers.specs.Numbers.{written}
use Rattle.judging.proofs.Put.{four_are, places_are}
use Rattle.judging.proofs.places.Goals as goal

pub returns : goal.returns
returns c =
    let short : c.size_of.result < 2 ^ 32 = omega arith in
    let size : 8 + length c.args.others.now - 8 ≡ length c.args.others.now = omega arith in
    places_are _ (c.args.key.end - c.args.key.start) _ _ _ _ _ _ (c.copy_from_slice.ensures.after ∙ (c.to_be_bytes.ensures ∙ four_are _ c.requires.0))
    (c.copy_from_slice-2.ensures.after ∙ (c.to_be_bytes-2.ensures ∙ (four_are _ short ∙ ap (λ n. written (n ∷ [])) c.size_of.ensures))) c.copy_from_slice-3.ensures.after c.requires.2 size
