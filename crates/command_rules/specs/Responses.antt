-- Replies as the program holds them. This project's own.
use Rattle.command_rules.specs.Messages.{Reply}
use Rattle.command_rules.specs.declared.responses.Response.{Response}
use Rattle.command_rules.specs.declared.responses.Text.TheVariants.{Fixed, Made}
use Rattle.command_rules.specs.declared.responses.Text.{Text}
use Rattle.std.specs.Prelude.{List, ℕ}

-- The bytes of a text.
abbrev pub text_bytes : Text → List ℕ
text_bytes (Fixed bytes) = bytes.now
text_bytes (Made bytes) = bytes.items

-- The response of the program, read as a reply.
abbrev pub reply_of : Response → Reply
reply_of r = record {
  fault = r.fault;
  answers = r.answers.items;
  output = text_bytes r.text;
  status = r.status;
}
