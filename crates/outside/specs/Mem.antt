-- What contracts see of the objects in memory.
use Rattle.std.specs.Prelude.{ℕ, List, None}
use Rattle.outside.specs.Files.{FilesView}
use Rattle.outside.specs.HeldFiles.{Kept, held_view, files_view}
use Rattle.outside.specs.Script.{ScriptView}
use Rattle.outside.specs.declared.memory.mem_files.MemFiles.{MemFiles}
use Rattle.outside.specs.declared.memory.plain_files.PlainFiles.{PlainFiles}

-- the files with the names that are held, which the trait's view doesn't tell from those without bytes
abbrev pub mem_kept : MemFiles → Kept
mem_kept m = (held_view m.files).kept

abbrev pub mem_view : MemFiles → FilesView
mem_view m = files_view (held_view m.files)

abbrev pub mem_script : MemFiles → ScriptView
mem_script m = m.script

-- no call fails, so no fault was ever counted
abbrev pub plain_view : PlainFiles → FilesView
plain_view p = record (files_view (held_view p.files)) { latest = None; faults = 0 }

pub record MemSinkView : Type 0 where
  pub text : List ℕ
  pub faults : ℕ
  pub script : ScriptView
