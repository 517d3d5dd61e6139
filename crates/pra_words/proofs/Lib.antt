mod Numbers
mod LineRows
mod LineLooks
mod LineTurns
mod LineOnce
mod LineRead
mod Command
