-- The worked examples of rows that ask the outside for something.
use Rattle.std.proofs.Common.{◌≡◌, [], ◌∷◌, refl}
use Rattle.kak_files.specs.declared.files.FileRead.TheVariants as file
use Rattle.kak_files.specs.Exchanges.{Read as WasRead}
use Rattle.kak_engine.specs.Asking.{OfFile}
use Rattle.kak_engine.specs.Course.{ShowsFile, WasAsked}
use Rattle.kak_engine.specs.Doing.{Do, top}
use Rattle.kak_engine.specs.Examples.{Examples}
use Rattle.kak_engine.specs.Seen.{moment_of}
use Rattle.kak_engine.proofs.AskingLaws.{grows-task, grows-do}

pub examples : Examples
examples = record {
  files = λ text built one other. refl;
  built = λ who wanted flat later. refl;
  refused = λ who wanted flat later. refl;
  wanting = λ who wanted flat. refl;
  another = λ who wanted flat later. refl;
  read = λ who name bytes flat later. refl;
  unwritten = λ who saving flat later. refl;
  not_written = λ who saving flat later. refl;
  begun = λ who name bytes flat. grows-task Do (top who) (ShowsFile name (file.Bytes bytes)) grows-do (moment_of (WasAsked (OfFile (WasRead name (file.Bytes bytes))) ∷ []) [] flat);
  unasked = λ who answers what flat b. let no : [] ≡ what ∷ b.0 = b.1 in cc;
}
