use Rattle.regex_select.proofs.HalvesLemmas.{forward-sought, backward-sought, found-inside, found-range}
use Rattle.regex_select.proofs.halves.sought_among.Goals as goal

pub returns-in-Forward-clause-inside : goal.returns-in-Forward-clause-inside
returns-in-Forward-clause-inside c = λ source text own all.
    found-inside source text c.args.direction c.args.sel c.match_at.result c.args.matches.now own all
    (forward-sought source text c.args.direction c.args.sel c.match_at.result c.args.matches.now c.parting-n.result c.in-Forward.is own all c.parting-n.ensures.few c.parting-n.ensures.before c.parting-n.ensures.behind c.match_at.ensures)

pub returns-in-Forward-clause-seeks : goal.returns-in-Forward-clause-seeks
returns-in-Forward-clause-seeks c = λ source text own all.
    found-range source text c.args.direction c.args.sel c.match_at.result c.args.matches.now own all
    (forward-sought source text c.args.direction c.args.sel c.match_at.result c.args.matches.now c.parting-n.result c.in-Forward.is own all c.parting-n.ensures.few c.parting-n.ensures.before c.parting-n.ensures.behind c.match_at.ensures)

pub returns-in-Backward-clause-inside : goal.returns-in-Backward-clause-inside
returns-in-Backward-clause-inside c = λ source text own all.
    found-inside source text c.args.direction c.args.sel c.match_before.result c.args.matches.now own all
    (backward-sought source text c.args.direction c.args.sel c.match_before.result c.args.matches.now c.parting-n.result c.in-Backward.is own all c.parting-n.ensures.few c.requires c.parting-n.ensures.before c.parting-n.ensures.behind c.match_before.ensures.before c.match_before.ensures.last)

pub returns-in-Backward-clause-seeks : goal.returns-in-Backward-clause-seeks
returns-in-Backward-clause-seeks c = λ source text own all.
    found-range source text c.args.direction c.args.sel c.match_before.result c.args.matches.now own all
    (backward-sought source text c.args.direction c.args.sel c.match_before.result c.args.matches.now c.parting-n.result c.in-Backward.is own all c.parting-n.ensures.few c.requires c.parting-n.ensures.before c.parting-n.ensures.behind c.match_before.ensures.before c.match_before.ensures.last)
