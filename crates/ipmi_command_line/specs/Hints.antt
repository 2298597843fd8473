-- What a user may have meant by a word that no command has there.
use Rattle.std.specs.Prelude.{[], ◌∷◌, ◌&&◌, ◌||◌, Bool, false, if◌then◌else◌, bytes_eq, chars, codes, drop, length, nat_eq, nat_le, None, Option, Some, take}
use Rattle.std.specs.List.{starts_with}
use Rattle.std.specs.Str.{str_eq_ignore_ascii_case}
use Rattle.clap.specs.Words.{Text}
use Rattle.strsim.specs.Edits.{osa_table}
use Rattle.ipmi_command_line.specs.declared.commands.Verb.{Verb}

-- the word is the beginning of the name, three letters or more
abbrev pub is_beginning : Text → Text → Bool
is_beginning word name = nat_le 3 (length word) && starts_with nat_eq name word

-- one letter at most is wrong, missing, extra or swapped
abbrev pub is_slip : Text → Text → Bool
is_slip word name = nat_le ((osa_table (chars word) (chars name)).last_row (length (chars name))) 1

-- the word is the name in capital letters, its beginning, or the name with a slip
abbrev pub is_near : Text → Text → Bool
is_near word name = str_eq_ignore_ascii_case word name || (is_beginning word name || is_slip word name)

-- the em dash and the en dash in UTF-8
abbrev pub em_dash : Text
em_dash = 226 ∷ 128 ∷ 148 ∷ []

abbrev pub en_dash : Text
en_dash = 226 ∷ 128 ∷ 147 ∷ []

-- a word that begins with one of them, without it
abbrev pub after_dash : Text → Option Text
after_dash word =
    if bytes_eq (take 3 word) em_dash then Some (drop 3 word)
    else (if bytes_eq (take 3 word) en_dash then Some (drop 3 word) else None)

-- the option whose name is the word
abbrev pub option_named : Text → Option Text
option_named word = if bytes_eq word (codes "version") then Some (codes "--version") else None

-- the command reads a saved image, and the option names a live controller
abbrev pub needs_image : Verb → Text → Bool
needs_image Verb.Rewrite option = bytes_eq option (codes "live")
needs_image _ option = false
