mod ToldLines
