use Rattle.std.proofs.Common.{sym, subst, arith}
use Rattle.json_writing.specs.JsonText.{ArePlain}
use Rattle.json_writing.proofs.Bytes.{grows_then}
use Rattle.json_writing.proofs.PlainLemmas.{plain_parts}
use Rattle.json_writing.proofs.text_bytes.push_piece.Goals as goal

pub push_plain-requires-clause-short : goal.push_plain-requires-clause-short
push_plain-requires-clause-short c = omega (arith, c.split_at.ensures.front_len, c.plain_front.ensures.few, c.requires)

pub push_plain-requires-clause-plain : goal.push_plain-requires-clause-plain
push_plain-requires-clause-plain c = subst ArePlain (sym c.split_at.ensures.front) c.plain_front.ensures.plain

pub returns-clause-ok : goal.returns-clause-ok
returns-clause-ok c =
    plain_parts c.args.out.now.items c.push_plain.new.out.items c.push_each-2.new.out.items c.args.text.now c.split_at.result.0.now c.split_at.result.1.now c.plain_front.result
    c.split_at.ensures.front c.split_at.ensures.back c.plain_front.ensures.plain c.in_ok-push_plain.ensures.ok c.in_ok-push_each.ensures.ok

pub returns-clause-grows : goal.returns-clause-grows
returns-clause-grows c = grows_then _ _ _ c.in_ok-push_plain.ensures.grows c.in_ok-push_each.ensures.grows
