use Rattle.line_painting.proofs.LawLemmas.{atoms_of-runs, spelled-atoms_of}
use Rattle.line_painting.proofs.laws.atoms_are_runs.Goals as goal

pub returns : goal.returns
returns c = record { same = spelled-atoms_of; runs = atoms_of-runs }
