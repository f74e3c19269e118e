-- `leaf::read_leaf` meets its contract. Assumes nothing.
use Rattle.leaf.proofs.Answers.{read_many, read_is}
use Rattle.leaf.proofs.read_leaf.Goals as goal

pub returns-then-count-gt-DNS_IDS_AT_MOST : goal.returns-then-count-gt-DNS_IDS_AT_MOST
returns-then-count-gt-DNS_IDS_AT_MOST c = read_many c.args.s.now _ c.fields_of.ensures c.in_ok-found.found c.in_ok-found.was _ c.dns_ids_of.ensures _ c.count.ensures c.if-count-gt-DNS_IDS_AT_MOST.true

pub returns : goal.returns
returns c = read_is c.args.s.now _ c.fields_of.ensures c.in_ok-found.found c.in_ok-found.was _ c.dns_ids_of.ensures _ c.count.ensures c.if-count-gt-DNS_IDS_AT_MOST.false
