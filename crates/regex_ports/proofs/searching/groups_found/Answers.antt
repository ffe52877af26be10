use Rattle.regex_ports.proofs.searching.groups_found.Goals as goal

pub returns-clause-bytes : goal.returns-clause-bytes
returns-clause-bytes c = λ k. (c.type_inv.text k).fits
