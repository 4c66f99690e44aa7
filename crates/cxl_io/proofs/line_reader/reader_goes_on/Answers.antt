use Rattle.cxl_io.proofs.HasRead.{read-begin, read-line, read-long, read-stop}
use Rattle.cxl_io.proofs.line_reader.reader_goes_on.Goals as goal

pub returns-clause-begin : goal.returns-clause-begin
returns-clause-begin c = λ source. read-begin source

pub returns-clause-line : goal.returns-clause-line
returns-clause-line c = λ passed start before after old new so_far next. read-line passed start before after old new so_far next

pub returns-clause-long : goal.returns-clause-long
returns-clause-long c = λ passed start before after old new so_far next. read-long passed start before after old new so_far next

pub returns-clause-stop : goal.returns-clause-stop
returns-clause-stop c = λ passed start before after old new answer so_far next other other'.
    read-stop passed start before after old new answer so_far next other other'
