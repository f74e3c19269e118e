-- `tweedstork::tweedstork_judge_host` meets its contract: `hosts::judge` gives the answer of the definition, every number fits and every slice is of bytes, and
-- of such arguments demands 2 and 3 are proved. Assumes nothing.
use native.Mathlib.Omega.{arith}
use Rattle.lists.specs.Bytes.{is_bytes}
use Rattle.lists.proofs.All.{all_cons, all_nil}
use Rattle.hosts.proofs.Accepted.{is_number}
use Rattle.hosts.proofs.Judged.{judged}
use Rattle.hosts.proofs.Passed.{bytes_by_place, number_below, is_passed}
use Rattle.tweedstork.proofs.tweedstork_judge_host.Goals as goal

pub returns : goal.returns
returns c = judged _ _ (is_passed _ (all_cons is_number _ _ (number_below c.args.clock (omega (arith, c.ranges.clock.fits))) (all_cons is_number _ _ (number_below c.args.expanded_next_hop_given (omega (arith, c.ranges.expanded_next_hop_given.fits))) (all_cons is_number _ _ (number_below c.args.origin (omega (arith, c.ranges.origin.fits))) (all_cons is_number _ _ (number_below c.args.address (omega (arith, c.ranges.address.fits))) (all_cons is_number _ _ (number_below c.args.policy_given (omega (arith, c.ranges.policy_given.fits))) (all_cons is_number _ _ (number_below c.args.fetched (omega (arith, c.ranges.fetched.fits))) (all_cons is_number _ _ (number_below c.args.tlsa_answers (omega (arith, c.ranges.tlsa_answers.fits))) (all_cons is_number _ _ (number_below c.args.tlsa1_result (omega (arith, c.ranges.tlsa1_result.fits))) (all_cons is_number _ _ (number_below c.args.tlsa2_result (omega (arith, c.ranges.tlsa2_result.fits))) (all_cons is_number _ _ (number_below c.args.starttls (omega (arith, c.ranges.starttls.fits))) (all_cons is_number _ _ (number_below c.args.handshake (omega (arith, c.ranges.handshake.fits))) (all_cons is_number _ _ (number_below c.args.tls_version (omega (arith, c.ranges.tls_version.fits))) (all_cons is_number _ _ (number_below c.args.certificates_given (omega (arith, c.ranges.certificates_given.fits))) (all_cons is_number _ _ (number_below c.args.trusted_root (omega (arith, c.ranges.trusted_root.fits))) (all_cons is_number _ _ (number_below c.args.common_name_given (omega (arith, c.ranges.common_name_given.fits))) (all_nil is_number)))))))))))))))) (all_cons is_bytes _ _ (bytes_by_place c.args.next_hop.now (λ i h. omega (arith, c.type_inv.next_hop i))) (all_cons is_bytes _ _ (bytes_by_place c.args.expanded_next_hop.now (λ i h. omega (arith, c.type_inv.expanded_next_hop i))) (all_cons is_bytes _ _ (bytes_by_place c.args.host.now (λ i h. omega (arith, c.type_inv.host i))) (all_cons is_bytes _ _ (bytes_by_place c.args.expanded.now (λ i h. omega (arith, c.type_inv.expanded i))) (all_cons is_bytes _ _ (bytes_by_place c.args.policy.now (λ i h. omega (arith, c.type_inv.policy i))) (all_cons is_bytes _ _ (bytes_by_place c.args.tlsa1_lengths.now (λ i h. omega (arith, c.type_inv.tlsa1_lengths i))) (all_cons is_bytes _ _ (bytes_by_place c.args.tlsa1_records.now (λ i h. omega (arith, c.type_inv.tlsa1_records i))) (all_cons is_bytes _ _ (bytes_by_place c.args.tlsa2_lengths.now (λ i h. omega (arith, c.type_inv.tlsa2_lengths i))) (all_cons is_bytes _ _ (bytes_by_place c.args.tlsa2_records.now (λ i h. omega (arith, c.type_inv.tlsa2_records i))) (all_cons is_bytes _ _ (bytes_by_place c.args.certificates.now (λ i h. omega (arith, c.type_inv.certificates i))) (all_cons is_bytes _ _ (bytes_by_place c.args.certificate_lengths.now (λ i h. omega (arith, c.type_inv.certificate_lengths i))) (all_cons is_bytes _ _ (bytes_by_place c.args.key_places.now (λ i h. omega (arith, c.type_inv.key_places i))) (all_cons is_bytes _ _ (bytes_by_place c.args.digests.now (λ i h. omega (arith, c.type_inv.digests i))) (all_cons is_bytes _ _ (bytes_by_place c.args.paths.now (λ i h. omega (arith, c.type_inv.paths i))) (all_cons is_bytes _ _ (bytes_by_place c.args.dns_ids.now (λ i h. omega (arith, c.type_inv.dns_ids i))) (all_cons is_bytes _ _ (bytes_by_place c.args.dns_id_lengths.now (λ i h. omega (arith, c.type_inv.dns_id_lengths i))) (all_cons is_bytes _ _ (bytes_by_place c.args.common_name.now (λ i h. omega (arith, c.type_inv.common_name i))) (all_nil is_bytes))))))))))))))))))) c.judge.ensures
