use Rattle.std.proofs.Common.{◌++◌, take, sym, ap, ◌∙◌, arith}
use Rattle.json_writing.specs.JsonText.{escaped, all_escaped}
use Rattle.json_writing.proofs.Bytes.{grows_then, written_two, all_escaped-more}
use Rattle.json_writing.proofs.text_bytes.push_each.Goals as goal

pub loop-i-preserved : goal.loop-i-preserved
loop-i-preserved c =
    let old = c.args.out.now.items in
    let x = c.index-text-i.result in
    let read = all_escaped (take c.loop-i.i c.args.text.now) in (
      written_two old c.loop-i.out.items c.push_with_room.new.out.items read (escaped x) c.loop-i.invariant.0 c.in_ok-push_with_room.ensures.ok
          ∙ ap (λ b. old ++ b) (sym (all_escaped-more c.args.text.now c.loop-i.i x c.loop-i-test.true c.index-text-i.is)),
      omega (arith, c.in_ok-push_with_room.ensures.room),
      grows_then _ _ _ c.loop-i.invariant.2 c.in_ok-push_with_room.ensures.grows,
    )
