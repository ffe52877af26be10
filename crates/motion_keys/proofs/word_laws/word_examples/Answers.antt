-- The examples hold by computation, with the tables of characters open.
use Rattle.unicode.proofs.CategoryComputing.{ucd_category}
use Rattle.unicode.proofs.DerivedComputing.{ucd_derived}
use Rattle.motion_keys.specs.WordExamples.{EndExamples, NextExamples, BackExamples}
use Rattle.motion_keys.proofs.word_laws.word_examples.Goals as goal

ends : EndExamples
unfolding ucd_category ucd_derived
ends = search

nexts : NextExamples
unfolding ucd_category ucd_derived
nexts = search

backs : BackExamples
unfolding ucd_category ucd_derived
backs = search

pub returns : goal.returns
returns c = record { ends = ends; nexts = nexts; backs = backs }
