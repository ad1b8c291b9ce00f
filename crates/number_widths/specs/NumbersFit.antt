-- That the numbers of a re-reading run stay below 2 to their widths, where what comes in does.
use Rattle.std.specs.Prelude.{ℕ, ◌≡◌, ◌<◌, ◌≤◌, ◌^◌, false, List, [], IsTrue}
use Rattle.core_term.specs.declared.term.CoreTerm.{CoreTerm}
use Rattle.core_term.specs.declared.process.CorePort.{CorePort}
use Rattle.core_term.specs.declared.process.CoreReg.{CoreReg}
use Rattle.core_term.specs.Lists.{Has}
use Rattle.core_term.specs.Inputs.{Inputs}
use Rattle.core_term.specs.Term.{Expr, Term, Act, head}
use Rattle.core_term.specs.Stands.{Stands}
use Rattle.core_term.specs.Acts.{Sends, Sets, Uses, Asks}
use Rattle.core_term.specs.Process.{Process, Thread, IsThread, nth_port, nth_register, is_received}
use Rattle.core_term.specs.Body.{IsBody}
use Rattle.core_term.specs.ProcessView.{process_of}
use Rattle.core_term.specs.Sized.{is_sized, is_owned}
use Rattle.core_term.specs.Fitting.{InputsFit}
use Rattle.core_term.specs.Reread.{Reread, IsReread, again_at}

-- each register begins below 2 to its width: what a `Bits` of that width keeps
abbrev pub ResetsFit : List CoreReg → Type 0
ResetsFit registers = (reg : CoreReg) → Has registers reg → reg.reset.value < 2 ^ reg.width

-- In each cycle of the list: what the registers show, also in the cycle after the list; what a `set`, a `send` and an
-- `if` read again, wherever they stand; and the data of the sent ports.
pub record NumbersFit (p : Process) (inputs : Inputs) (run : Reread) : Type 0 where
  pub registers : (t r : ℕ) → t ≤ inputs.count → run.registers t r < 2 ^ (nth_register p.registers r).width
  pub sets : (t j : ℕ) (thread : Thread) → t < inputs.count → IsThread p.threads j thread
      → (scope : List Act) (u : Term) → Stands [] thread.body scope u
      → (r : ℕ) (e : Expr) → Sets (head u) r → Uses (head u) e
      → again_at inputs run j t scope e < 2 ^ (nth_register p.registers r).width
  pub sends : (t j : ℕ) (thread : Thread) → t < inputs.count → IsThread p.threads j thread
      → (scope : List Act) (u : Term) → Stands [] thread.body scope u
      → (m : ℕ) (e : Expr) → Sends (head u) m → Uses (head u) e
      → again_at inputs run j t scope e < 2 ^ (nth_port p.ports m).width
  pub conditions : (t j : ℕ) (thread : Thread) → t < inputs.count → IsThread p.threads j thread
      → (scope : List Act) (u : Term) → Stands [] thread.body scope u
      → (e : Expr) → Asks (head u) e → again_at inputs run j t scope e < 2 ^ 1
  pub data_at : (t m : ℕ) → t < inputs.count → is_received p m ≡ false
      → run.wires.data_at m t < 2 ^ (nth_port p.ports m).width

-- Of a sized and owned process whose bodies are numbered and tail-stepped, every re-reading run on inputs that fit has
-- numbers that fit.
abbrev pub RereadNumbersFit : Type 0
RereadNumbersFit =
    (name : List ℕ) (ports : List CorePort) (registers : List CoreReg) (threads : List CoreTerm)
    → IsTrue (is_sized name ports registers threads) → IsTrue (is_owned name ports registers threads)
    → ((body : CoreTerm) → Has threads body → IsBody body) → ResetsFit registers
    → (inputs : Inputs) → InputsFit (process_of name ports registers threads) inputs
    → (run : Reread) → IsReread (process_of name ports registers threads) inputs run
    → NumbersFit (process_of name ports registers threads) inputs run
