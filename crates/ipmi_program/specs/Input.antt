-- The words of a process, and why reading an image failed.
use Rattle.std.specs.Prelude.{◌≡◌, ◌≢◌, ◌↔◌, ℕ, List, [], ◌∷◌, Option, Some, None, codes}
use Rattle.std.specs.declared.io.ErrorKind.{ErrorKind}
use Rattle.ipmi_program.specs.declared.input.InputFault.{InputFault}

-- its arguments, or the program's name if there are none
abbrev pub named : List (List ℕ) → List (List ℕ)
named [] = codes "ipmitool" ∷ []
named (name ∷ arguments) = name ∷ arguments

-- the fault for an error of this kind; it is never `TooLong`
pub record IsFaultOf (kind : ErrorKind) (fault : InputFault) : Type 0 where
  pub memory : (kind ≡ ErrorKind.OutOfMemory) ↔ (fault ≡ InputFault.Memory)
  pub not_found : (kind ≡ ErrorKind.NotFound) ↔ (fault ≡ InputFault.NotFound)
  pub directory : (kind ≡ ErrorKind.IsADirectory) ↔ (fault ≡ InputFault.IsDirectory)
  pub not_directory : (kind ≡ ErrorKind.NotADirectory) ↔ (fault ≡ InputFault.NotDirectory)
  pub link_loop : (kind ≡ ErrorKind.FilesystemLoop) ↔ (fault ≡ InputFault.LinkLoop)
  pub name_too_long : (kind ≡ ErrorKind.InvalidFilename) ↔ (fault ≡ InputFault.NameTooLong)
  pub denied : (kind ≡ ErrorKind.PermissionDenied) ↔ (fault ≡ InputFault.PermissionDenied)
  pub short : fault ≢ InputFault.TooLong

abbrev pub input_fault_words : InputFault → List ℕ
input_fault_words InputFault.Memory = codes "out of memory"
input_fault_words InputFault.NotFound = codes "no such file"
input_fault_words InputFault.IsDirectory = codes "is a directory"
input_fault_words InputFault.NotDirectory = codes "part of its path is not a directory"
input_fault_words InputFault.LinkLoop = codes "too many symbolic links"
input_fault_words InputFault.NameTooLong = codes "file name too long"
input_fault_words InputFault.PermissionDenied = codes "permission denied"
input_fault_words InputFault.TooLong = codes "longer than 64 MiB"
input_fault_words InputFault.Other = codes "input/output error"

-- the name of the input in messages
abbrev pub input_name : Option (List ℕ) → List ℕ
input_name (Some file) = file
input_name None = codes "standard input"
