-- What a writer holds, and what a function wrote with it.
use Rattle.std.specs.Prelude.{◌≡◌, List, ℕ, length}
use Rattle.text.specs.declared.Writer.{Writer}
use Rattle.text.specs.Text.{Out, out, appended}

-- the bytes of a writer's buffer, and the text in it
abbrev pub out_of : Writer → Out
out_of w = out w.buf.now w.text

-- it is over the same buffer
pub record SameBuffer (b c : Writer) : Type 0 where
  pub name : c.buf.ghost_name ≡ b.buf.ghost_name
  pub long : length c.buf.now ≡ length b.buf.now

-- its text has the bytes s more
pub record Wrote (b c : Writer) (s : List ℕ) : Type 0 where
  pub is : out_of c ≡ appended s (out_of b)
  pub same : SameBuffer b c
