-- Where the text of the configuration stands in a script.
use Rattle.std.specs.Prelude.{◌≡◌, ℕ, ◌+◌, ◌-◌, ◌≤◌, ◌==◌, if◌then◌else◌, List, length, take, drop}
use Rattle.std.specs.Str.{IsUtf8}
use Rattle.std.specs.Str.Lines.{lines}
use Rattle.svc_text.specs.declared.conf_text.ConfText.{ConfText}
use Rattle.svc_text.specs.Script.{part_of, lines_before}

-- the bytes from one place to another
abbrev pub between : ℕ → ℕ → List ℕ → List ℕ
between start end all = take (end - start) (drop start all)

-- the text of the configuration, in all bytes
abbrev pub text_at : ConfText → List ℕ → List ℕ
text_at c all = between c.start c.end all

-- one more line is passed, which ends at this place: it stands in one part, and its end in another
abbrev pub passed : ConfText → ℕ → ℕ → ℕ → ConfText
passed c was now place =
    if now == 0 then record c { before = c.before + 1 }
    else (if now == 1 then record c { start = (if was == 0 then place else c.start); end = place } else c)

-- the text of the configuration has the lines of its part, of these lines, and so many stand before it
pub record IsConfText (all : List ℕ) (ls : List (List ℕ)) (c : ConfText) : Type 0 where
  pub order : c.start ≤ c.end
  pub inside : c.end ≤ length all
  pub is_text : IsUtf8 (text_at c all)
  pub says : lines (text_at c all) ≡ part_of 1 ls
  pub before : c.before ≡ lines_before ls
  pub room : c.before + length (part_of 1 ls) ≤ length ls + 1
