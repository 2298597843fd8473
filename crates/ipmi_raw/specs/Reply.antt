-- The result of reading a text.
use Rattle.std.specs.Prelude.{ℕ, List, Option, Some, None}
use Rattle.ipmi_raw.specs.declared.reply.Reply.{Reply}

-- the reply that the text represents; None only if it represents no reply
abbrev pub ReadsReply : (Reply → List ℕ → Type 0) → List ℕ → Option Reply → Type 0
ReadsReply IsText text (Some reply) = IsText reply text
ReadsReply IsText text None = (reply : Reply) → ¬ IsText reply text
